-- What the orders of a batch have in parts is counted kind by kind.
use Rattle.std.proofs.Common.{◌≡◌, ◌≢◌, ℕ, zero, suc, ◌+◌, ◌-◌, ◌*◌, ◌<◌, ◌≤◌, ◌↔◌, ◌⊎◌, ltb, eqb, cond, List, [], ◌∷◌, All, length, set, arith}
use Rattle.std.proofs.Common.{refl, ap, sym, ◌∙◌, subst, inl, inr, ⊎_elim, Contains, mul-le-mul_right}
use Rattle.std.specs.Prelude.{slice_index, slice_index_or, sum, sum_by}
use Rattle.std.specs.List.Sorted.{IsStrictlyIncreasing}
use Rattle.std.proofs.lemmas.Bool.{cases_eq, cases_lt, cond-false, cond-true, le-ltb, lt-ltb}
use Rattle.std.proofs.lemmas.Bool.Decides.{nat_tests}
use Rattle.std.proofs.lemmas.List.{get_or-set_same, get_or-set_other, get_or_default, length-set}
use Rattle.std.proofs.lemmas.List.Elements.{All-contains, Contains-get_or}
use Rattle.std.proofs.lemmas.List.Sums.{sum_by-cons}
use Rattle.wp_pairs.specs.Batches.{IsBatch}
use Rattle.wp_pairs.proofs.Classes.{head_below, no_longer, tail_ascends}
use Rattle.wp_pairs.proofs.Members.{contains_first, contains_later}
use Rattle.wp_lengths.proofs.Ascending.{split_off}
use Rattle.wp_lengths.proofs.DualBounds.{ascending_few}
use Rattle.wp_cuts.specs.Cuts.{CutParts, IsRankCut, part_beside, cut_part}
use Rattle.wp_cuts.specs.KeptCuts.{AreKinds, StandsBelow}

-- ---- the part beside an order

here_part : (first part order : ℕ) (orders parts : List ℕ) → first ≡ order → part_beside (first ∷ orders) (part ∷ parts) order ≡ part
here_part first part order orders parts same = grind (arith, nat_tests)

other_part : (first part order : ℕ) (orders parts : List ℕ) → first ≢ order → part_beside (first ∷ orders) (part ∷ parts) order ≡ part_beside orders parts order
other_part first part order orders parts other = grind (arith, nat_tests)

-- what stands at a place of ascending orders is the part of the order there
pub beside_at : (orders parts : List ℕ) (place part order : ℕ) → IsStrictlyIncreasing orders → length parts ≡ length orders → place < length orders
    → slice_index orders place ≡ order → slice_index parts place ≡ part → part_beside orders parts order ≡ part
beside_at [] parts place part order up same low is has = absurd (omega (arith, low))
beside_at (x ∷ xs) [] place part order up same low is has = absurd (omega (arith, same))
beside_at (x ∷ xs) (q ∷ qs) zero part order up same low is has = here_part x q order xs qs is ∙ has
beside_at (x ∷ xs) (q ∷ qs) (suc place) part order up same low is has =
    let there : Contains xs order = subst (λ (o : ℕ). Contains xs o) is (Contains-get_or xs place 0 (omega (arith, low))) in
    let above = head_below x xs up order there in
    other_part x q order xs qs (λ (e : x ≡ order). omega (arith, above, e))
    ∙ beside_at xs qs place part order (tail_ascends x xs up) (omega (arith, same)) (omega (arith, low)) is has

-- a part of an order stands at a place
pub at_beside : (orders parts : List ℕ) (part order : ℕ) → 0 < part → part_beside orders parts order ≡ part
    → StandsBelow orders parts (length orders) part order
at_beside [] parts part order some is = absurd (omega (arith, some, is))
at_beside (x ∷ xs) [] part order some is = absurd (omega (arith, some, is))
at_beside (x ∷ xs) (q ∷ qs) part order some is =
    ⊎_elim
    (λ (e : x ≡ order). (zero, omega arith, e, sym (here_part x q order xs qs e) ∙ is))
    (λ (ne : x ≢ order). let at = at_beside xs qs part order some (sym (other_part x q order xs qs ne) ∙ is) in
    (suc at.0, omega (arith, at.1), at.2, at.3))
    (cases_eq x order)

-- a part is 0 or below the divisor
pub part_below : (orders parts : List ℕ) (divisor order : ℕ) → 0 < divisor → All (λ part. (1 ≤ part) × (part < divisor)) parts
    → part_beside orders parts order < divisor
part_below [] parts divisor order some all = omega (arith, some)
part_below (x ∷ xs) [] divisor order some all = omega (arith, some)
part_below (x ∷ xs) (q ∷ qs) divisor order some all =
    ⊎_elim
    (λ (e : x ≡ order). let low = (all 0 0 (omega arith)).1 in omega (arith, here_part x q order xs qs e, low))
    (λ (ne : x ≢ order). let rest = part_below xs qs divisor order some (λ k d low. all (suc k) d (omega (arith, low))) in
    omega (arith, other_part x q order xs qs ne, rest))
    (cases_eq x order)

-- ---- sums, kind by kind

-- a value where it is below an end, and else 0
pub capped : (ℕ → ℕ) → ℕ → ℕ → ℕ
capped f end x = cond (ltb (f x) end) (f x) 0

-- 1 where it is this one, and else 0
pub is_kind : (ℕ → ℕ) → ℕ → ℕ → ℕ
is_kind f kind x = cond (eqb (f x) kind) 1 0

pub kind_is : (f : ℕ → ℕ) (kind x : ℕ) → f x ≡ kind → is_kind f kind x ≡ 1
unfolding is_kind
kind_is f kind x is = grind (arith, nat_tests)

pub kind_else : (f : ℕ → ℕ) (kind x : ℕ) → (f x ≡ kind → ⊥) → is_kind f kind x ≡ 0
unfolding is_kind
kind_else f kind x other = grind (arith, nat_tests)

in_capped : (f : ℕ → ℕ) (end x : ℕ) → f x < end → capped f end x ≡ f x
unfolding capped
in_capped f end x low = cond-true (ltb (f x) end) (f x) 0 (lt-ltb (f x) end low)

out_capped : (f : ℕ → ℕ) (end x : ℕ) → end ≤ f x → capped f end x ≡ 0
unfolding capped
out_capped f end x high = cond-false (ltb (f x) end) (f x) 0 (le-ltb (f x) end high)

times_one : (k n : ℕ) → n ≡ 1 → k * n ≡ k
times_one k n is = let one : k * 1 ≡ k = omega arith in rw is one

times_none : (k n : ℕ) → n ≡ 0 → k * n ≡ 0
times_none k n is = let none : k * 0 ≡ 0 = omega arith in rw is none

capped_more : (f : ℕ → ℕ) (end x : ℕ) → capped f (end + 1) x ≡ capped f end x + end * is_kind f end x
capped_more f end x =
    ⊎_elim
    (λ (low : f x < end). omega (
      arith,
      in_capped f end x low,
      in_capped f (end + 1) x (omega (arith, low)),
      times_none end (is_kind f end x) (kind_else f end x (λ (e : f x ≡ end). omega (arith, low, e))),
    ))
    (λ (high : end ≤ f x). ⊎_elim
    (λ (e : f x ≡ end). omega (
      arith,
      e,
      out_capped f end x high,
      in_capped f (end + 1) x (omega (arith, e)),
      times_one end (is_kind f end x) (kind_is f end x e),
    ))
    (λ (ne : f x ≢ end). omega (
      arith,
      out_capped f end x high,
      out_capped f (end + 1) x (omega (arith, high, ne)),
      times_none end (is_kind f end x) (kind_else f end x ne),
    ))
    (cases_eq (f x) end))
    (cases_lt (f x) end)

shared : (k a b : ℕ) → k * (a + b) ≡ k * a + k * b
shared k a b = grind arith

-- the sum up to one more end has so many more of one kind
pub sum_more : (f : ℕ → ℕ) (end : ℕ) (xs : List ℕ) → sum_by (capped f (end + 1)) xs ≡ sum_by (capped f end) xs + end * sum_by (is_kind f end) xs
sum_more f end [] = let none : end * 0 ≡ 0 = times_none end 0 refl in omega (arith, none)
sum_more f end (x ∷ xs) =
    let whole = ap (λ (n : ℕ). end * n) (sum_by-cons (is_kind f end) x xs) in
    omega (
      arith,
      sum_by-cons (capped f (end + 1)) x xs,
      sum_by-cons (capped f end) x xs,
      whole,
      shared end (is_kind f end x) (sum_by (is_kind f end) xs),
      capped_more f end x,
      sum_more f end xs,
    )

-- nothing is below 1 but 0
pub sum_none : (f : ℕ → ℕ) (xs : List ℕ) → sum_by (capped f 1) xs ≡ 0
sum_none f [] = refl
sum_none f (x ∷ xs) =
    let none = ⊎_elim (λ (low : f x < 1). let l : capped f 1 x ≡ 0 = omega (arith, in_capped f 1 x low, low) in l)
    (λ (high : 1 ≤ f x). out_capped f 1 x high) (cases_lt (f x) 1) in
    omega (arith, sum_by-cons (capped f 1) x xs, none, sum_none f xs)

-- where all values are below the end, it is the whole sum
pub sum_whole : (f : ℕ → ℕ) (end : ℕ) (xs : List ℕ) → ((x : ℕ) → f x < end) → sum_by (capped f end) xs ≡ sum_by f xs
sum_whole f end [] all = refl
sum_whole f end (x ∷ xs) all = omega (arith, sum_by-cons (capped f end) x xs, sum_by-cons f x xs, in_capped f end x (all x), sum_whole f end xs all)

-- ---- how many are in both

weighs_none : (f : ℕ → ℕ) (xs : List ℕ) → ((x : ℕ) → Contains xs x → f x ≡ 0) → sum_by f xs ≡ 0
weighs_none f [] none = refl
weighs_none f (x ∷ xs) none = omega (
  arith,
  sum_by-cons f x xs,
  none x (contains_first x xs),
  weighs_none f xs (λ y has. none y (contains_later x y xs has)),
)

weighs_one : (f : ℕ → ℕ) (xs : List ℕ) → ((x : ℕ) → Contains xs x → f x ≡ 1) → sum_by f xs ≡ length xs
weighs_one f [] one = refl
weighs_one f (x ∷ xs) one = omega (
  arith,
  sum_by-cons f x xs,
  one x (contains_first x xs),
  weighs_one f xs (λ y has. one y (contains_later x y xs has)),
)

-- as many as are in each, less those in either
pub counted_both : (f : ℕ → ℕ) (left right union : List ℕ) → IsStrictlyIncreasing left → IsStrictlyIncreasing right → IsStrictlyIncreasing union
    → ((x : ℕ) → Contains union x ↔ (Contains left x ⊎ Contains right x)) → ((x : ℕ) → Contains right x → f x ≡ 1)
    → ((x : ℕ) → (Contains right x → ⊥) → f x ≡ 0) → sum_by f left + length union ≡ length left + length right
counted_both f left right union up down over of_both one none =
    let new = split_off f right union down over (λ x has. (of_both x).1 (inr has)) in
    let own = split_off f new.rest left new.ascending up (λ x has.
    ⊎_elim (λ (l : Contains left x). l) (λ (r : Contains right x). absurd (new.not_of_part x has r)) ((of_both x).0 (new.of_whole x has))) in
    let light = weighs_none f new.rest (λ x has. none x (new.not_of_part x has)) in
    let heavy = weighs_one f own.rest (λ x has. one x
    (⊎_elim (λ (r : Contains right x). r) (λ (n : Contains new.rest x). absurd (own.not_of_part x has n))
    (new.covers x ((of_both x).1 (inl (own.of_whole x has)))))) in
    omega (arith, own.sums, light, heavy, own.counts, new.counts)

-- no more than are in the one
pub both_few : (left right union : List ℕ) → IsStrictlyIncreasing right → IsStrictlyIncreasing union
    → ((x : ℕ) → Contains union x ↔ (Contains left x ⊎ Contains right x)) → length right ≤ length union
both_few left right union down over of_both = no_longer right union down over (λ x has. (of_both x).1 (inr has))

-- ---- the kinds of a cut

-- one more place at which the part stands
pub stands_more : (orders parts kind wider : List ℕ) (place part : ℕ) → ((order : ℕ) → Contains kind order ↔ StandsBelow orders parts place part order)
    → slice_index parts place ≡ part → ((p : ℕ) → Contains wider p ↔ (Contains kind p ⊎ (p ≡ slice_index orders place))) → (order : ℕ)
    → Contains wider order ↔ StandsBelow orders parts (place + 1) part order
stands_more orders parts kind wider place part before here is order = (
  λ has. ⊎_elim
      (λ (old : Contains kind order). let at = (before order).0 old in (at.0, omega (arith, at.1), at.2, at.3))
      (λ (e : order ≡ slice_index orders place). (place, omega arith, sym e, here))
      ((is order).0 has),
  λ at. (is order).1 (⊎_elim
      (λ (e : at.0 ≡ place). inr (sym at.2 ∙ ap (slice_index orders) e))
      (λ (ne : at.0 ≢ place). inl ((before order).1 (at.0, omega (arith, at.1, ne), at.2, at.3)))
      (cases_eq at.0 place)),
)

-- one more place at which another stands
pub stands_else : (orders parts kind : List ℕ) (place part : ℕ) → ((order : ℕ) → Contains kind order ↔ StandsBelow orders parts place part order)
    → (slice_index parts place ≡ part → ⊥) → (order : ℕ) → Contains kind order ↔ StandsBelow orders parts (place + 1) part order
stands_else orders parts kind place part before other order = (
  λ has. let at = (before order).0 has in (at.0, omega (arith, at.1), at.2, at.3),
  λ at. ⊎_elim
      (λ (e : at.0 ≡ place). absurd (other (sym (ap (slice_index parts) e) ∙ at.3)))
      (λ (ne : at.0 ≢ place). (before order).1 (at.0, omega (arith, at.1, ne), at.2, at.3))
      (cases_eq at.0 place),
)

-- the kinds below this one
pub record AreKindsBelow (orders parts : List ℕ) (kinds : List (List ℕ)) (end : ℕ) : Type 0 where
  pub whole : length kinds ≡ 7
  pub each : (kind order : ℕ) → kind < end
      → (Contains (slice_index_or kinds kind []) order ↔ StandsBelow orders parts (length orders) (kind + 1) order)

-- with one more
pub one_more_kind : (orders parts : List ℕ) (kinds : List (List ℕ)) (row : List ℕ) (end : ℕ) → AreKindsBelow orders parts kinds end → end < 7
    → ((order : ℕ) → Contains row order ↔ StandsBelow orders parts (length orders) (end + 1) order)
    → AreKindsBelow orders parts (set kinds end row) (end + 1)
one_more_kind orders parts kinds row end before within is = record {
  whole = length-set kinds end row ∙ before.whole;
  each = λ kind order low. ⊎_elim
      (λ (e : kind ≡ end).
      let here : slice_index_or (set kinds end row) kind [] ≡ row = ap (λ (k : ℕ). slice_index_or (set kinds end row) k []) e
      ∙ get_or-set_same kinds end row [] (omega (arith, before.whole, within)) in
      subst (λ (k : ℕ). Contains (slice_index_or (set kinds end row) kind []) order ↔ StandsBelow orders parts (length orders) (k + 1) order) (sym e)
      (subst (λ (xs : List ℕ). Contains xs order ↔ StandsBelow orders parts (length orders) (end + 1) order) (sym here) (is order)))
      (λ (ne : kind ≢ end).
      let there : slice_index_or (set kinds end row) kind [] ≡ slice_index_or kinds kind [] = get_or-set_other kinds end kind row [] ne in
      subst (λ (xs : List ℕ). Contains xs order ↔ StandsBelow orders parts (length orders) (kind + 1) order) (sym there)
      (before.each kind order (omega (arith, low, ne))))
      (cases_eq kind end);
}

-- an order of a kind has its part, and another has another
pub kind_has : (cut : CutParts) (kinds : List (List ℕ)) (orders kind order : ℕ) → IsRankCut orders cut → AreKinds cut.orders cut.parts kinds → kind < 7
    → Contains (slice_index_or kinds kind []) order → cut_part cut order ≡ kind + 1
kind_has cut kinds orders kind order valid are low has =
    let at = (are.each kind order low).0 has in beside_at cut.orders cut.parts at.0 (kind + 1) order valid.ascending valid.each at.1 at.2 at.3

pub kind_lacks : (cut : CutParts) (kinds : List (List ℕ)) (orders kind order : ℕ) → IsRankCut orders cut → AreKinds cut.orders cut.parts kinds → kind < 7
    → (Contains (slice_index_or kinds kind []) order → ⊥) → cut_part cut order ≡ kind + 1 → ⊥
kind_lacks cut kinds orders kind order valid are low not is =
    not ((are.each kind order low).1 (at_beside cut.orders cut.parts (kind + 1) order (omega arith) is))

-- how many of a batch are of a kind
pub kind_counted : (cut : CutParts) (kinds : List (List ℕ)) (row batch : List ℕ) (part count : ℕ) → IsRankCut 64 cut → AreKinds cut.orders cut.parts kinds
    → 1 ≤ part → part < cut.divisor → row ≡ slice_index_or kinds (part - 1) row → ((f : ℕ → ℕ) → ((order : ℕ) → Contains row order → f order ≡ 1)
    → ((order : ℕ) → (Contains row order → ⊥) → f order ≡ 0) → count ≡ sum_by f batch) → count ≡ sum_by (is_kind (cut_part cut) part) batch
kind_counted cut kinds row batch part count valid are some low read counts =
    let whole : part - 1 + 1 ≡ part = omega (arith, some) in
    let within : part - 1 < 7 = omega (arith, some, low, valid.high) in
    let item : slice_index_or kinds (part - 1) [] ≡ row = get_or_default kinds (part - 1) [] row (omega (arith, within, are.whole)) ∙ sym read in
    counts (is_kind (cut_part cut) part)
    (λ order has. kind_is (cut_part cut) part order
    (kind_has cut kinds 64 (part - 1) order valid are within (subst (λ (xs : List ℕ). Contains xs order) (sym item) has) ∙ whole))
    (λ order not. kind_else (cut_part cut) part order (λ (e : cut_part cut order ≡ part).
    kind_lacks cut kinds 64 (part - 1) order valid are within (λ has. not (subst (λ (xs : List ℕ). Contains xs order) item has)) (e ∙ sym whole)))

-- so many of one kind are added
pub kind_added : (f : ℕ → ℕ) (batch : List ℕ) (part total count : ℕ) → total ≡ sum_by (capped f part) batch → count ≡ sum_by (is_kind f part) batch
    → total + part * count ≡ sum_by (capped f (part + 1)) batch
kind_added f batch part total count so_far counted =
    let more = ap (λ (n : ℕ). part * n) counted in omega (arith, so_far, more, sum_more f part batch)

-- a part times a count of orders is small
pub product_small : (part count : ℕ) → part ≤ 8 → count ≤ 64 → part * count ≤ 512
product_small part count low few = let wide : part * count ≤ 8 * count = mul-le-mul_right count low in omega (arith, wide, few)

-- a batch has few orders, and a cut few parts
pub batch_few : (batch : List ℕ) → IsBatch batch → length batch ≤ 64
batch_few batch is =
    let few = ascending_few batch 0 64 is.ascending (omega arith) (λ x has. omega arith) (λ x has. All-contains (λ (o : ℕ). o < 64) batch x is.below has) in
    omega (arith, few)

pub parts_few : (cut : CutParts) → IsRankCut 64 cut → length cut.parts ≤ 64
parts_few cut valid =
    let few = ascending_few cut.orders 0 64 valid.ascending (omega arith) (λ x has. omega arith)
    (λ x has. All-contains (λ (o : ℕ). o < 64) cut.orders x valid.known has) in
    omega (arith, few, valid.each)

-- ---- all parts

same_members : (f g : ℕ → ℕ) (xs : List ℕ) → ((x : ℕ) → Contains xs x → f x ≡ g x) → sum_by f xs ≡ sum_by g xs
same_members f g [] same = refl
same_members f g (x ∷ xs) same = omega (
  arith,
  sum_by-cons f x xs,
  sum_by-cons g x xs,
  same x (contains_first x xs),
  same_members f g xs (λ y has. same y (contains_later x y xs has)),
)

-- the orders of a cut have all its parts
pub all_parts_met : (orders parts : List ℕ) → IsStrictlyIncreasing orders → length parts ≡ length orders → sum_by (part_beside orders parts) orders ≡ sum parts
all_parts_met [] [] up same = refl
all_parts_met [] (q ∷ qs) up same = absurd (omega (arith, same))
all_parts_met (x ∷ xs) [] up same = absurd (omega (arith, same))
all_parts_met (x ∷ xs) (q ∷ qs) up same =
    let rest = all_parts_met xs qs (tail_ascends x xs up) (omega (arith, same)) in
    let others = same_members (part_beside (x ∷ xs) (q ∷ qs)) (part_beside xs qs) xs
    (λ y has. let above = head_below x xs up y has in other_part x q y xs qs (λ (e : x ≡ y). omega (arith, above, e))) in
    omega (
      arith,
      sum_by-cons (part_beside (x ∷ xs) (q ∷ qs)) x xs,
      here_part x q x xs qs refl,
      others,
      rest,
      sum_by-cons (λ (n : ℕ). n) q qs,
    )

-- parts below a divisor of 8 come to so much at most
pub parts_small : (parts : List ℕ) (divisor : ℕ) → divisor ≤ 8 → All (λ part. (1 ≤ part) × (part < divisor)) parts → sum parts ≤ length parts * 8
parts_small [] divisor low all = omega arith
parts_small (q ∷ qs) divisor low all =
    let rest = parts_small qs divisor low (λ k d within. all (suc k) d (omega (arith, within))) in
    let first = (all 0 0 (omega arith)).1 in
    omega (arith, rest, first, low, sum_by-cons (λ (n : ℕ). n) q qs)

-- an order of a kind has its part
pub kind_met : (cut : CutParts) (kinds : List (List ℕ)) (row : List ℕ) (order part : ℕ) → IsRankCut 64 cut → AreKinds cut.orders cut.parts kinds → 1 ≤ part
    → part < cut.divisor → row ≡ slice_index_or kinds (part - 1) row → Contains row order → cut_part cut order ≡ part
kind_met cut kinds row order part valid are some low read has =
    let whole : part - 1 + 1 ≡ part = omega (arith, some) in
    let within : part - 1 < 7 = omega (arith, some, low, valid.high) in
    let item : slice_index_or kinds (part - 1) [] ≡ row = get_or_default kinds (part - 1) [] row (omega (arith, within, are.whole)) ∙ sym read in
    kind_has cut kinds 64 (part - 1) order valid are within (subst (λ (xs : List ℕ). Contains xs order) (sym item) has) ∙ whole

-- an order that isn't of a kind has another
pub kind_missed : (cut : CutParts) (kinds : List (List ℕ)) (row : List ℕ) (order part : ℕ) → IsRankCut 64 cut → AreKinds cut.orders cut.parts kinds → 1 ≤ part
    → part < cut.divisor → row ≡ slice_index_or kinds (part - 1) row → (Contains row order → ⊥) → cut_part cut order ≡ part → ⊥
kind_missed cut kinds row order part valid are some low read not is =
    let whole : part - 1 + 1 ≡ part = omega (arith, some) in
    let within : part - 1 < 7 = omega (arith, some, low, valid.high) in
    let item : slice_index_or kinds (part - 1) [] ≡ row = get_or_default kinds (part - 1) [] row (omega (arith, within, are.whole)) ∙ sym read in
    kind_lacks cut kinds 64 (part - 1) order valid are within (λ has. not (subst (λ (xs : List ℕ). Contains xs order) item has)) (is ∙ sym whole)

-- an order with none of the parts has none
pub none_met : (cut : CutParts) (order end : ℕ) → IsRankCut 64 cut → cut.divisor ≤ end
    → ((part : ℕ) → 1 ≤ part → part < end → cut_part cut order ≡ part → ⊥) → 0 ≡ cut_part cut order
none_met cut order end valid over missed =
    let below = part_below cut.orders cut.parts cut.divisor order (omega (arith, valid.low)) valid.parts in
    ⊎_elim
    (λ (none : cut_part cut order < 1). let is : 0 ≡ cut_part cut order = omega (arith, none) in is)
    (λ (some : 1 ≤ cut_part cut order). absurd (missed (cut_part cut order) some (omega (arith, below, over)) refl))
    (cases_lt (cut_part cut order) 1)
