-- A tree isn't both right and refused: also not where it is right for one wave and refused for another that picks at the same slots.
use Rattle.std.proofs.Common.{◌≡◌, ◌∙◌, refl, sym, ap, ap₂, subst, ℕ, suc, ◌*◌, ◌/◌, ◌<◌, inl, inr, List, [], ◌∷◌}
use Rattle.std.proofs.Common.{length, arith, Contains, Option, Some, Result, Ok, Err}
use Rattle.std.specs.Int.{div_ceil}
use Rattle.std.specs.Prelude.{None, max, slice_index, slice_index_or, sum}
use Rattle.wp_model.specs.declared.point.Point.{Point}
use Rattle.wp_model.specs.Warehouse.{Layout}
use Rattle.wp_graph.specs.PickSets.{PickSet}
use Rattle.wp_graph.proofs.Members.{Contains-from_among, among-flat_map, among_from_Contains, flat_map_source}
use Rattle.wp_model.specs.Tours.{IsShortest}
use Rattle.wp_pairs.specs.Carts.{LoadedCart}
use Rattle.wp_pairs.specs.Permitted.{Pairing}
use Rattle.wp_lengths.specs.Batchings.{no_pairs}
use Rattle.wp_lengths.specs.Lengths.{IsLengthOf, batch_picks}
use Rattle.wp_lengths.specs.Waves.{HaveSamePicks, WavePicks, picks_of}
use Rattle.wp_lengths.proofs.Unions.{nothing_in, same_shortest}
use Rattle.wp_cuts.specs.Counts.{carts_filled}
use Rattle.wp_cuts.specs.Cuts.{CutParts}
use Rattle.wp_cuts.specs.PricedVisits.{HaveSameLengths}
use Rattle.wp_cert.specs.declared.text.form.Form.{Form}
use Rattle.wp_cert.specs.declared.tree.CertFault.{CertFault}
use Rattle.wp_cert.specs.declared.tree.CertWhy.{CertWhy}
use Rattle.wp_cert.specs.declared.tree.Node.{Node}
use Rattle.wp_cert.specs.declared.tree.Tree.{Tree}
use Rattle.wp_lengths.specs.Duals.{IsShare, IsSumOfShares}
use Rattle.wp_cert.specs.Refusals.{IsBroken, IsFirstBroken, bad_cuts, in_tree, nodes_left}
use Rattle.wp_cert.specs.Terms.{AreCuts, AreTermsFor, Terms, batches_in, cuts_in, terms_of}
use Rattle.wp_cert.specs.Text.{IsSame, Tells, certificate_said}
use Rattle.wp_cert.specs.Bounds.{TellsBound}
use Rattle.wp_cert.specs.Trees.{IsBoundOf, IsRight}
use Rattle.wp_lengths.proofs.FewerOrders.{same_length}
use Rattle.wp_cert.proofs.OneOutcome.{none_broken, on_wave, right_agree, right_cuts, same_number, same_step}
use Rattle.wp_cert.proofs.TextSame.{told_once}
use Rattle.std.proofs.lemmas.Bool.{cases_lt}
use Rattle.std.proofs.lemmas.List.{get_or_past}

module _ (wave other : WavePicks) (same : HaveSameLengths wave other) where
  one_length : (batch : List ℕ) (one two : ℕ) → IsLengthOf wave batch one → IsLengthOf other batch two → one ≡ two
  one_length batch one two first second = same_length other batch one two (same batch one first) second

  -- an order has one share
  one_share : (capacity order one two : ℕ) → IsShare wave capacity order one → IsShare other capacity order two → one ≡ two
  one_share capacity order one two first second =
      first.is ∙ (ap (λ (t : ℕ). 60 * t / capacity) (one_length (order ∷ []) first.total second.total first.alone second.alone) ∙ sym second.is)

-- lists of the same numbers, place by place
same_places : (xs ys : List ℕ) → length xs ≡ length ys → ((k : ℕ) → k < length xs → slice_index xs k ≡ slice_index ys k) → xs ≡ ys
same_places [] [] count each = refl
same_places [] (y ∷ ys) count each = absurd (omega (arith, count))
same_places (x ∷ xs) [] count each = absurd (omega (arith, count))
same_places (x ∷ xs) (y ∷ ys) count each =
    ap₂ (λ (z : ℕ) (zs : List ℕ). z ∷ zs) (each 0 (omega arith)) (same_places xs ys (omega (arith, count)) (λ k low. each (suc k) (omega (arith, low))))

-- the shares come to one sum
one_sum : (wave other : WavePicks) (same : HaveSameLengths wave other) (capacity one two : ℕ) → length wave.orders ≡ length other.orders
    → IsSumOfShares wave capacity one → IsSumOfShares other capacity two → one ≡ two
one_sum wave other same capacity one two count first second =
    let xs = first.0 in
    let ys = second.0 in
    let lists = same_places xs ys (first.1.count ∙ (count ∙ sym second.1.count))
    (λ k low. one_share wave other same capacity k (slice_index xs k) (slice_index ys k) (first.1.each k (omega (arith, low, first.1.count)))
    (second.1.each k (omega (arith, low, first.1.count, count)))) in
    sym first.2 ∙ (ap sum lists ∙ second.2)

-- so many orders, such a capacity and such a cart, and no pair
abbrev pairs_with : ℕ → ℕ → Option LoadedCart → Pairing
pairs_with orders capacity cart = record { orders = orders; capacity = capacity; cart = cart; pairs = [] }

-- waves of as many orders with the same cart have the same pairs at first
same_pairs : (wave other : WavePicks) (capacity : ℕ) → length wave.orders ≡ length other.orders → wave.cart ≡ other.cart
    → no_pairs wave capacity ≡ no_pairs other capacity
same_pairs wave other capacity count cart =
    ap₂ (λ (n : ℕ) (c : Option LoadedCart). pairs_with n capacity c) count cart

-- as many batches are counted for waves of as many orders with the same cart
same_batches : (wave other : WavePicks) (capacity : ℕ) (cuts : Option (List CutParts)) → length wave.orders ≡ length other.orders → wave.cart ≡ other.cart
    → batches_in wave capacity cuts ≡ batches_in other capacity cuts
same_batches wave other capacity None count cart = refl
same_batches wave other capacity (Some cuts) count cart =
    ap₂ (λ (n : ℕ) (c : Option LoadedCart). max (div_ceil n capacity) (carts_filled c)) count cart

-- what holds of the other wave with its terms, its pairs and its shares, holds with those of the one
module _ (wave other : WavePicks) (layout : wave.layout ≡ other.layout) (same : HaveSameLengths wave other)
    (count : length wave.orders ≡ length other.orders) (cart : wave.cart ≡ other.cart) (capacity : ℕ) (cuts : Option (List CutParts))
    (one two here there : ℕ) (are : AreTermsFor wave cuts one) (too : AreTermsFor other cuts two) (sums : IsSumOfShares wave capacity here)
    (sums_too : IsSumOfShares other capacity there) where
  moved : (P : Terms → Pairing → ℕ → Type 0) → P (terms_of other capacity cuts two) (no_pairs other capacity) there
      → P (on_wave other (terms_of wave capacity cuts one)) (no_pairs wave capacity) here
  moved P is =
      let steps = same_step wave other cuts one two layout are too in
      let batches = same_batches wave other capacity cuts count cart in
      let shares = one_sum wave other same capacity here there count sums sums_too in
      let terms : terms_of other capacity cuts two ≡ on_wave other (terms_of wave capacity cuts one) =
      ap₂ (λ (s b : ℕ). record { wave = other; step = s; cuts = cuts_in cuts; batches = b }) (sym steps) (sym batches) in
      subst (λ (t : Terms). P t (no_pairs wave capacity) here) terms
      (subst (λ (p : Pairing). P (terms_of other capacity cuts two) p here) (sym (same_pairs wave other capacity count cart))
      (subst (λ (s : ℕ). P (terms_of other capacity cuts two) (no_pairs other capacity) s) (sym shares) is))

module _ (wave other : WavePicks) (layout : wave.layout ≡ other.layout) (same : HaveSameLengths wave other)
    (count : length wave.orders ≡ length other.orders) (cart : wave.cart ≡ other.cart) (capacity : ℕ) (tree : Tree) where
  -- a tree that has a bound for the one wave is not refused for the other
  pub bound_not_broken : (bound : ℕ) (fault : CertFault) → IsBoundOf wave capacity tree bound → IsFirstBroken other capacity tree fault → ⊥
  bound_not_broken bound fault right (bad_cuts bad numbered) =
      bad.bad (subst (λ (n : ℕ). AreCuts n bad.cuts) count (right_cuts wave tree.cuts bad.cuts right.0 bad.is right.2))
  bound_not_broken bound fault right (in_tree {step} {shares} {left} are sums broken place) =
      none_broken (terms_of wave capacity tree.cuts right.0) other same (no_pairs wave capacity) right.1 tree.nodes [] left (Some bound) fault.why right.4
      (moved wave other layout same count cart capacity tree.cuts right.0 step right.1 shares right.2 are right.3 sums
      (λ t p s. IsBroken t p s tree.nodes left fault.why) broken)
  bound_not_broken bound fault right (nodes_left {step} {shares} {left} {bound = found} are sums also some place is) =
      let ends = right_agree (terms_of wave capacity tree.cuts right.0) other (no_pairs wave capacity) right.1 tree.nodes [] left (Some bound) found right.4
      (moved wave other layout same count cart capacity tree.cuts right.0 step right.1 shares right.2 are right.3 sums
      (λ t p s. IsRight t p s tree.nodes left found) also) in
      omega (arith, ap (λ (ns : List Node). length ns) ends.nodes, some)

  -- a tree has one bound, for the one wave and for the other
  one_bound : (bound found : ℕ) → IsBoundOf wave capacity tree bound → IsBoundOf other capacity tree found → bound ≡ found
  one_bound bound found right also =
      same_number bound found (right_agree (terms_of wave capacity tree.cuts right.0) other (no_pairs wave capacity) right.1 tree.nodes [] [] (Some bound)
      (Some found) right.4
      (moved wave other layout same count cart capacity tree.cuts right.0 also.0 right.1 also.1 right.2 also.2 right.3 also.3
      (λ t p s. IsRight t p s tree.nodes [] (Some found)) also.4)).bounds

-- orders that pick at the same slots: what an order picks in the one list it picks in the other
picks_too : (left right : List PickSet) (here there : Layout) → HaveSamePicks left right → here ≡ there → (order : ℕ) (p : Point)
    → Contains (slice_index_or left order (record { layout = here; points = [] })).points p
    → Contains (slice_index_or right order (record { layout = there; points = [] })).points p
picks_too left right here there same layout order p has = elim (cases_lt order (length left)) [
  | inl within ↦
      subst (λ (l : Layout). Contains (slice_index_or right order (record { layout = l; points = [] })).points p) layout
      ((same.each order (record { layout = here; points = [] }) within p).0 has)
  | inr past ↦
      absurd (nothing_in _ p (ap (λ (s : PickSet). s.points) (get_or_past left order (record { layout = here; points = [] }) past)) has)
]

-- what a batch picks in the one wave it picks in the other
batch_too : (wave other : WavePicks) (batch : List ℕ) → ((order : ℕ) (p : Point) → Contains (picks_of wave order) p → Contains (picks_of other order) p)
    → (p : Point) → Contains (batch_picks wave batch) p → Contains (batch_picks other batch) p
batch_too wave other batch picks p has =
    let source = flat_map_source (picks_of wave) batch p (among_from_Contains _ p has) in
    Contains-from_among _ p (among-flat_map (picks_of other) batch source.0 p source.1
    (among_from_Contains (picks_of other source.0) p (picks source.0 p (Contains-from_among (picks_of wave source.0) p source.2))))

told_or_refused : (form : Form) (why : CertWhy) (said : Result Form CertWhy) → said ≡ Ok form → said ≡ Err why → ⊥
told_or_refused form why said told refused = let same : ◌≡◌ {A = Result Form CertWhy} (Ok form) (Err why) = sym told ∙ refused in cc same

-- bytes that tell a certificate are not refused
pub told_not_refused : (layout : Layout) (bytes : List ℕ) (wave : WavePicks) (capacity : ℕ) (tree : Tree) (why : CertWhy)
    → Tells layout bytes wave capacity tree → certificate_said layout bytes ≡ Err why → ⊥
told_not_refused layout bytes wave capacity tree why told refused =
    told_or_refused told.form why (certificate_said layout bytes) told.said refused

-- the same picks the other way round
picks_back : (left right : List PickSet) → HaveSamePicks left right → HaveSamePicks right left
picks_back left right same = record {
  count = sym same.count;
  each = λ order d within p. let both = same.each order d (omega (arith, within, same.count)) p in (both.1, both.0);
}

-- two waves that pick at the same slots have the same lengths
same_lengths : (wave other : WavePicks) → wave.layout ≡ other.layout → HaveSamePicks wave.orders other.orders → HaveSameLengths wave other
same_lengths wave other layout picks = λ batch total long.
    subst (λ (l : Layout). IsShortest l (batch_picks other batch) total) layout
    (same_shortest wave.layout (batch_picks wave batch) (batch_picks other batch) total
    (λ p. (
      batch_too wave other batch (picks_too wave.orders other.orders wave.layout other.layout picks layout) p,
      batch_too other wave batch (picks_too other.orders wave.orders other.layout wave.layout (picks_back wave.orders other.orders picks) (sym layout)) p,
    )) long)

-- waves that pick at the same slots have one bound
pub same_bound : (wave other : WavePicks) (capacity further : ℕ) (tree another : Tree) (bound found : ℕ)
    → IsSame wave other capacity further tree another → IsBoundOf wave capacity tree bound → IsBoundOf other further another found → bound ≡ found
same_bound wave other capacity further tree another bound found is right also =
    one_bound wave other is.layout (same_lengths wave other is.layout is.orders) is.orders.count is.cart capacity tree bound found right
    (subst (λ (c : ℕ). IsBoundOf other c tree found) (sym is.capacity_is)
    (subst (λ (t : Tree). IsBoundOf other further t found) (sym is.tree_is) also))

-- a text tells one bound
pub one_told : (layout : Layout) (text : List ℕ) (bound found : ℕ) → TellsBound layout text bound → TellsBound layout text found → bound ≡ found
one_told layout text bound found one also =
    same_bound one.wave also.wave one.capacity also.capacity one.tree also.tree bound found
    (told_once layout text one.wave also.wave one.capacity also.capacity one.tree also.tree one.told also.told) one.right also.right

-- where bytes tell a tree that has a bound, they tell none that breaks a rule
pub told_right : (layout : Layout) (bytes : List ℕ) (wave other : WavePicks) (capacity further : ℕ) (tree another : Tree) (bound : ℕ) (fault : CertFault)
    → Tells layout bytes wave capacity tree → Tells layout bytes other further another → IsBoundOf wave capacity tree bound
    → IsFirstBroken other further another fault → ⊥
told_right layout bytes wave other capacity further tree another bound fault one also right broken =
    let is = told_once layout bytes wave other capacity further tree another one also in
    bound_not_broken wave other is.layout (same_lengths wave other is.layout is.orders) is.orders.count is.cart capacity tree bound fault right
    (subst (λ (c : ℕ). IsFirstBroken other c tree fault) (sym is.capacity_is)
    (subst (λ (t : Tree). IsFirstBroken other further t fault) (sym is.tree_is) broken))
