-- What batches cost when they are put into another order, and when two of them are joined.
use Rattle.std.proofs.Common.{◌≡◌, ◌≢◌, ℕ, zero, suc, ◌+◌, ◌-◌, ◌^◌, ◌<◌, ◌≤◌, ◌⊎◌, List, [], ◌∷◌, ◌++◌, length, get_or, set, take, arith, refl, ap, sym, ◌∙◌}
use Rattle.std.proofs.Common.{subst, ⊎_elim}
use Rattle.std.proofs.Common.{Contains}
use Rattle.std.specs.Prelude.{min, remove}
use Rattle.std.proofs.lemmas.Bool.{cases_lt}
use Rattle.std.proofs.lemmas.List.Edits.{get_or-remove_above, get_or-remove_below, length-remove}
use Rattle.std.proofs.lemmas.List.{get_or-set_other, get_or_default, length-set, take_more}
use Rattle.wp_lengths.specs.Batchings.{IsCost, IsListedByLeast, batch_at}
use Rattle.wp_batch.specs.Joins.{CostLess, CostNoMore, JoinSaves, TellsCost}
use Rattle.wp_lengths.specs.Lengths.{IsLengthOf}
use Rattle.wp_lengths.specs.Waves.{WavePicks}
use Rattle.wp_lengths.proofs.Unions.{one_length}

-- batches cost one sum alone
pub one_cost : (wave : WavePicks) (batches : List (List ℕ)) (cost other : ℕ) → IsCost wave batches cost → IsCost wave batches other → cost ≡ other
one_cost wave [] cost other first second = omega (arith, first, second)
one_cost wave (batch ∷ batches) cost other first second =
    omega (arith, first.4, second.4, one_length wave.layout _ first.0 second.0 first.2 second.2, one_cost wave batches first.1 second.1 first.3 second.3)

-- the cost of all batches is the length of one and the cost of the others
pub record TakenOut (wave : WavePicks) (batches : List (List ℕ)) (place cost : ℕ) : Type 0 where
  pub length_there : ℕ
  pub rest : ℕ
  pub long : IsLengthOf wave (batch_at batches place) length_there
  pub others : IsCost wave (remove batches place) rest
  pub sum : cost ≡ length_there + rest

take_out : (wave : WavePicks) (batches : List (List ℕ)) (place cost : ℕ) → place < length batches → IsCost wave batches cost
    → TakenOut wave batches place cost
take_out wave [] place cost within is = absurd (omega arith)
take_out wave (batch ∷ batches) zero cost within is = record { length_there = is.0; rest = is.1; long = is.2; others = is.3; sum = is.4 }
take_out wave (batch ∷ batches) (suc place) cost within is =
    let out = take_out wave batches place is.1 (omega arith) is.3 in
    record {
      length_there = out.length_there;
      rest = is.0 + out.rest;
      long = out.long;
      others = (is.0, out.rest, is.2, out.others, refl);
      sum = omega (arith, is.4, out.sum);
    }

put_back : (wave : WavePicks) (batches : List (List ℕ)) (place more rest : ℕ) → place < length batches → IsLengthOf wave (batch_at batches place) more
    → IsCost wave (remove batches place) rest → IsCost wave batches (more + rest)
put_back wave [] place more rest within long is = absurd (omega arith)
put_back wave (batch ∷ batches) zero more rest within long is = (more, rest, long, is, refl)
put_back wave (batch ∷ batches) (suc place) more rest within long is =
    (is.0, more + is.1, is.2, put_back wave batches place more is.1 (omega arith) long is.3, omega (arith, is.4))

-- the cost with another batch at a place tells the cost with the one that was there
change_back : (wave : WavePicks) (batches : List (List ℕ)) (place : ℕ) (other : List ℕ) (cost now before : ℕ) → place < length batches
    → IsLengthOf wave other now → IsLengthOf wave (batch_at batches place) before → IsCost wave (set batches place other) cost
    → (sum : ℕ) × IsCost wave batches sum × (sum + now ≡ cost + before)
change_back wave [] place other cost now before within of_other long is = absurd (omega arith)
change_back wave (batch ∷ batches) zero other cost now before within of_other long is = (
  before + is.1,
  (before, is.1, long, is.3, refl),
  omega (arith, is.4, one_length wave.layout _ is.0 now is.2 of_other),
)
change_back wave (batch ∷ batches) (suc place) other cost now before within of_other long is =
    let out = change_back wave batches place other is.1 now before (omega arith) of_other long is.3 in
    (is.0 + out.0, (is.0, out.0, is.2, out.1, refl), omega (arith, is.4, out.2))

-- with two batches in the places of two others that are together no shorter, batches cost no more
pub replaced_cost_no_more : (wave : WavePicks) (batches : List (List ℕ)) (left right : ℕ) (one other : List ℕ) (before behind total : ℕ) → left < right
    → right < length batches → IsLengthOf wave (batch_at batches left) before → IsLengthOf wave (batch_at batches right) behind
    → IsCost wave (one ∷ other ∷ []) total → total ≤ before + behind → CostNoMore wave batches (set (set batches left one) right other)
replaced_cost_no_more wave batches left right one other before behind total order within is_left is_right both low = λ less is.
    let ne : right ≢ left = omega (arith, order) in
    let inside : right < length (set batches left one) = omega (arith, within, length-set batches left one) in
    let there : batch_at (set batches left one) right ≡ batch_at batches right = get_or-set_other batches left right one [] ne in
    let first = change_back wave (set batches left one) right other less both.3.0 behind inside both.3.2
    (subst (λ (b : List ℕ). IsLengthOf wave b behind) (sym there) is_right) is in
    let second = change_back wave batches left one first.0 both.0 before (omega (arith, order, within)) both.2 is_left first.1 in
    (second.0, second.1, omega (arith, first.2, second.2, both.4, both.3.4, both.3.3, low))

-- the batches that cost least so far stay, or others that cost less take their place
pub cheaper_taken : (wave : WavePicks) (batches best other : List (List ℕ)) (least total : ℕ) → TellsCost wave best least → TellsCost wave other total
    → total < least → (best ≡ batches) ⊎ CostLess wave batches best → CostLess wave batches other
cheaper_taken wave batches best other least total known told low kept = λ cost less is other_is.
    let here = one_cost wave other told.cost less told.is other_is in ⊎_elim
    (λ (same : best ≡ batches). omega (
      arith,
      one_cost wave best known.cost cost known.is
          (subst (λ (bs : List (List ℕ)). IsCost wave bs cost) (sym same) is),
      here,
      known.told_is,
      told.told_is,
      low,
    ))
    (λ (cheaper : CostLess wave batches best). omega (arith, cheaper cost known.cost is known.is, here, known.told_is, told.told_is, low)) kept

-- the batches and one more cost more by its length
cost_push : (wave : WavePicks) (batches : List (List ℕ)) (batch : List ℕ) (cost more : ℕ) → IsCost wave batches cost → IsLengthOf wave batch more
    → IsCost wave (batches ++ batch ∷ []) (cost + more)
cost_push wave [] batch cost more is long = (more, 0, long, refl, omega (arith, is))
cost_push wave (first ∷ rest) batch cost more is long =
    (is.0, is.1 + more, is.2, cost_push wave rest batch is.1 more is.3 long, omega (arith, is.4))

-- what the first batches and one more cost is told by what the first cost and its length
pub told_more : (wave : WavePicks) (batches : List (List ℕ)) (place : ℕ) (batch : List ℕ) (told more next : ℕ) → place < length batches
    → batch ≡ batch_at batches place → TellsCost wave (take place batches) told → IsLengthOf wave batch more → next ≡ min (told + more) (2 ^ 64 - 1)
    → TellsCost wave (take (place + 1) batches) next
told_more wave batches place batch told more next within read is long next_is = record {
  cost = is.cost + more;
  is = subst (λ (bs : List (List ℕ)). IsCost wave bs (is.cost + more)) (sym (take_more batches place [] within))
      (cost_push wave (take place batches) (batch_at batches place) is.cost more is.is (subst (λ (b : List ℕ). IsLengthOf wave b more) read long));
  told_is = omega (arith, next_is, is.told_is);
}

-- after a join that saves, batches cost no more
pub join_costs_no_more : (wave : WavePicks) (batches : List (List ℕ)) (left right : ℕ) (union : List ℕ) → left < right → right < length batches
    → (saving : ℕ) (s : JoinSaves wave (batch_at batches left) (batch_at batches right) saving) → IsLengthOf wave union s.both
    → CostNoMore wave batches (remove (set batches left union) right)
join_costs_no_more wave batches left right union order within saving s of_union = λ less is.
    let ne : right ≢ left = omega (arith, order) in
    let inside : right < length (set batches left union) = omega (arith, within, length-set batches left union) in
    let there : batch_at (set batches left union) right ≡ batch_at batches right = get_or-set_other batches left right union [] ne in
    let back = put_back wave (set batches left union) right s.other less inside (subst (λ (b : List ℕ). IsLengthOf wave b s.other) (sym there) s.of_right) is in
    let out = change_back wave batches left union (s.other + less) s.both s.one (omega (arith, order, within)) of_union s.of_left back in
    (out.0, out.1, omega (arith, out.2, s.sum))

-- another batch than the one taken out stays
stays : (batches : List (List ℕ)) (place : ℕ) (gone batch : List ℕ) → place < length batches → batch_at batches place ≡ gone
    → get_or gone 0 0 < get_or batch 0 0 → Contains batches batch → Contains (remove batches place) batch
stays batches place gone batch within is lower has =
    let fewer = length-remove batches place within in
    let ne : has.0 ≢ place = λ (e : has.0 ≡ place).
    let same : gone ≡ batch = sym is ∙ (ap (batch_at batches) (sym e) ∙ (get_or_default batches has.0 [] batch has.1 ∙ has.2)) in
    omega (arith, lower, ap (λ (b : List ℕ). get_or b 0 0) same) in
    ⊎_elim
    (λ (lt : has.0 < place). (has.0, omega (arith, fewer, within), get_or-remove_below batches place batch has.0 lt within ∙ has.2))
    (λ (ge : place ≤ has.0).
    let back : has.0 - 1 + 1 ≡ has.0 = omega (arith, ne) in (
      has.0 - 1,
      omega (arith, fewer, ne, has.1),
      get_or-remove_above batches place batch (has.0 - 1) (omega (arith, ne)) within ∙ (ap (λ (k : ℕ). get_or batches k batch) back ∙ has.2),
    ))
    (cases_lt has.0 place)

-- different ones of some batches cost no more than all
pub some_cost_no_more : (wave : WavePicks) (listed batches : List (List ℕ)) (cost : ℕ)
    → ((k : ℕ) → k < length listed → Contains batches (batch_at listed k)) → IsListedByLeast listed → IsCost wave batches cost
    → (less : ℕ) × IsCost wave listed less × (less ≤ cost)
some_cost_no_more wave [] batches cost among rise is = (0, refl, omega arith)
some_cost_no_more wave (first ∷ listed) batches cost among rise is =
    let at = among 0 (omega arith) in
    let out = take_out wave batches at.0 cost at.1 is in
    let there : batch_at batches at.0 ≡ first = get_or_default batches at.0 [] first at.1 ∙ at.2 in
    let rest = some_cost_no_more wave listed (remove batches at.0) out.rest
    (λ k low. stays batches at.0 first (batch_at listed k) at.1 there (rise 0 (suc k) (omega arith) (omega arith)) (among (suc k) (omega arith)))
    (λ l r lt low. rise (suc l) (suc r) (omega arith) (omega arith)) out.others in (
      out.length_there + rest.0,
      (out.length_there, rest.0, subst (λ (b : List ℕ). IsLengthOf wave b out.length_there) there out.long, rest.1, refl {a = out.length_there + rest.0}),
      omega (arith, out.sum, rest.2),
    )

-- a batch of some that have a cost has a length
length_among : (wave : WavePicks) (batches : List (List ℕ)) (place cost : ℕ) → place < length batches → IsCost wave batches cost
    → (total : ℕ) × IsLengthOf wave (batch_at batches place) total
length_among wave batches place cost within is = let out = take_out wave batches place cost within is in (out.length_there, out.long)

-- batches each of which has a length have a cost
have_cost : (wave : WavePicks) (batches : List (List ℕ)) → ((k : ℕ) → k < length batches → (total : ℕ) × IsLengthOf wave (batch_at batches k) total)
    → (cost : ℕ) × IsCost wave batches cost
have_cost wave [] each = (0, refl)
have_cost wave (batch ∷ batches) each =
    let first = each 0 (omega arith) in
    let rest = have_cost wave batches (λ k low. each (suc k) (omega arith)) in
    (first.0 + rest.0, (first.0, rest.0, first.1, rest.1, refl {a = first.0 + rest.0}))

-- the same batches in another order cost no more
pub listed_costs_no_more : (wave : WavePicks) (listed batches : List (List ℕ)) → ((k : ℕ) → k < length listed → Contains batches (batch_at listed k))
    → ((m : ℕ) → m < length batches → (k : ℕ) × (k < length listed) × (batch_at listed k ≡ batch_at batches m)) → IsListedByLeast listed
    → CostNoMore wave batches listed
listed_costs_no_more wave listed batches among all rise = λ less is.
    let cost = have_cost wave batches (λ m within.
    let at = all m within in
    let long = length_among wave listed at.0 less at.1 is in
    (long.0, subst (λ (b : List ℕ). IsLengthOf wave b long.0) at.2 long.1)) in
    let some = some_cost_no_more wave listed batches cost.0 among rise cost.1 in
    (cost.0, cost.1, omega (arith, some.2, one_cost wave listed some.0 less some.1 is))

-- what costs no more than batches that cost no more than others costs no more than those
pub no_more_through : (wave : WavePicks) (one two three : List (List ℕ)) → CostNoMore wave one two → CostNoMore wave two three → CostNoMore wave one three
no_more_through wave one two three first next = λ less is.
    let middle = next less is in
    let before = first middle.0 middle.1 in (before.0, before.1, omega (arith, middle.2, before.2))

-- batches that stay, or cost less, cost no more
pub kept_costs_no_more : (wave : WavePicks) (batches best : List (List ℕ)) (told : ℕ) → TellsCost wave batches told
    → (best ≡ batches) ⊎ CostLess wave batches best → CostNoMore wave batches best
kept_costs_no_more wave batches best told known kept = λ less is. ⊎_elim
    (λ (same : best ≡ batches). (less, subst (λ (bs : List (List ℕ)). IsCost wave bs less) same is, omega arith))
    (λ (cheaper : CostLess wave batches best). (known.cost, known.is, omega (arith, cheaper known.cost less known.is is))) kept
