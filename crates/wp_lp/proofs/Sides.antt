-- Brackets that are made of parts and of duals in sixtieths.
use Rattle.std.proofs.Common.{◌≡◌, ⊎_elim, ℕ, zero, suc, ◌+◌, ◌*◌, ◌≤◌, ◌<◌, Bool, true, false, cond, List, [], ◌∷◌, All, length, map, take, Contains}
use Rattle.std.proofs.Common.{ℤ, pos, ◌+ℤ◌, ◌*ℤ◌, ◌≤ℤ◌, ◌<ℤ◌, arith, ap, sym, subst, refl, ◌∙◌}
use Rattle.std.specs.Prelude.{slice_index, slice_index_or, sum, sum_by}
use Rattle.std.specs.List.Sorted.{IsStrictlyIncreasing}
use Rattle.std.proofs.lemmas.Int.{ints}
use Rattle.std.proofs.lemmas.List.{get_or-map, length-map, take_all}
use Rattle.std.proofs.lemmas.List.Elements.{All-contains, All-head, All-map, All-tail, All-weaker, Contains-get_or}
use Rattle.std.proofs.lemmas.List.Sums.{get_or-le-sum_by, sum_by-cons, sum_by_more}
use Rattle.std.proofs.lemmas.Nat.{mul-le}
use Rattle.wp_lengths.specs.Duals.{AreFeasible, duals_of}
use Rattle.wp_lengths.specs.Waves.{WavePicks}
use Rattle.wp_pairs.proofs.SumsUnder.{sum_under, under_all, under_none, under_with, under_without}
use Rattle.wp_pairs.specs.Permitted.{IsPermitted, Pairing}
use Rattle.wp_master.proofs.Totals.{same_total}
use Rattle.wp_master.specs.Bases.{total_below}
use Rattle.wp_master.specs.Pairs.{number_at}
use Rattle.wp_lp.proofs.Holds.{has_tells, has_true}
use Rattle.wp_lp.specs.Covers.{AreFeasibleOver, IsFractionalCover, IsWeightedLength, dual_sum, has, sum_of_duals, weight_with}
use Rattle.wp_lp.specs.Parts.{AreExact, IsWeightedBatch, IsRootOf, cost_of, cover_of, weighed, weight_for}
use Rattle.wp_lp.specs.Roots.{IsBracket, IsNarrow}
use Rattle.wp_lp.specs.Runs.{AreSixtieths}
use Rattle.wp_lp.specs.declared.part.WeightedBatch.{WeightedBatch}
use Rattle.wp_lp.specs.declared.root.Root.{Root}
use Rattle.wp_lp.specs.declared.root.RootState.{RootState}

batches_in : List WeightedBatch → List (List ℕ)
batches_in parts = map (λ (part : WeightedBatch). part.batch) parts

weights_in : List WeightedBatch → List ℤ
weights_in parts = map (λ (part : WeightedBatch). pos part.weight) parts

own_weight : (b : Bool) (w rest : ℕ) → cond b (pos w) (pos 0) +ℤ pos rest ≡ pos (cond b w 0 + rest)
own_weight true w rest = refl
own_weight false w rest = refl

weights_sum : (parts : List WeightedBatch) (order : ℕ) → weight_with (batches_in parts) (weights_in parts) order ≡ pos (cover_of parts order)
unfolding batches_in weights_in
weights_sum [] order = refl
weights_sum (part ∷ parts) order =
    ap (λ (t : ℤ). cond (has part.batch order) (pos part.weight) (pos 0) +ℤ t) (weights_sum parts order)
    ∙ own_weight (has part.batch order) part.weight (cover_of parts order) ∙ ap pos (sym (sum_by-cons (weight_for order) part parts))

weighted_length : (wave : WavePicks) (pairing : Pairing) (parts : List WeightedBatch) → All (IsWeightedBatch wave pairing) parts
    → IsWeightedLength wave (batches_in parts) (weights_in parts) (pos (cost_of parts))
unfolding batches_in weights_in
weighted_length wave pairing [] each = refl
weighted_length wave pairing (part ∷ parts) each = (
  part.length,
  pos (cost_of parts),
  (All-head (IsWeightedBatch wave pairing) part parts each).long,
  weighted_length wave pairing parts (All-tail (IsWeightedBatch wave pairing) part parts each),
  ap pos (sum_by-cons weighed part parts),
)

step_up : (i : ℕ) → i + 1 ≡ suc i
step_up i = omega arith

-- what a batch's orders have, as a sum over all orders below an end
pub total_under : (f : ℕ → ℕ) (n : ℕ) (batch : List ℕ) → IsStrictlyIncreasing batch
    → total_below n (λ (order : ℕ). cond (has batch order) (pos (f order)) (pos 0)) ≡ pos (sum_under f n batch)
unfolding total_below
total_under f zero batch up = ap pos (sym (under_none f batch))
total_under f (suc n) batch up =
    let before = total_under f n batch up in
    let next = ap (λ (k : ℕ). sum_under f k batch) (step_up n) in
    ⊎_elim
    (λ (held : (has batch n ≡ true) × Contains batch n).
    let here = ap (λ (b : Bool). cond b (pos (f n)) (pos 0)) held.0 in
    let more = under_with f n batch up held.1 in omega (arith, ints, before, here, more, next))
    (λ (unheld : (has batch n ≡ false) × (Contains batch n → ⊥)).
    let here = ap (λ (b : Bool). cond b (pos (f n)) (pos 0)) unheld.0 in
    let more = under_without f n batch unheld.1 in omega (arith, ints, before, here, more, next))
    (has_tells batch n)

-- the sum over the first places of a list, times a number
total_taken : (xs : List ℕ) (over n : ℕ) → n ≤ length xs → total_below n (λ (place : ℕ). pos (slice_index xs place * over)) ≡ pos (sum (take n xs) * over)
unfolding total_below
total_taken xs over zero within = let none : 0 ≡ 0 * over = omega arith in ap pos none
total_taken xs over (suc n) within =
    let before = total_taken xs over n (omega (arith, within)) in
    let more = sum_by_more (λ (x : ℕ). x) xs n 0 (omega (arith, within)) in
    let next = ap (λ (k : ℕ). sum (take k xs)) (step_up n) in
    let product = ap (λ (t : ℕ). t * over) (sym next ∙ more) in
    omega (arith, ints, before, product)

sum_times : (f : ℕ → ℕ) (k : ℕ) (xs : List ℕ) → sum_by (λ (x : ℕ). f x * k) xs ≡ sum_by f xs * k
sum_times f k [] = omega arith
sum_times f k (x ∷ xs) =
    let product = ap (λ (t : ℕ). t * k) (sum_by-cons f x xs) in
    omega (arith, sum_by-cons (λ (x : ℕ). f x * k) x xs, product, sum_times f k xs)

duals_in : List ℕ → ℕ → List ℤ
duals_in sixtieths over = map (λ (dual : ℕ). pos (dual * over)) sixtieths

dual_at : (sixtieths : List ℕ) (over order : ℕ) → order < length sixtieths
    → number_at (duals_in sixtieths over) order ≡ pos (slice_index sixtieths order * over)
unfolding duals_in
dual_at sixtieths over order low = get_or-map (λ (dual : ℕ). pos (dual * over)) sixtieths order 0 (pos 0) low

same_cond : (b : Bool) (x y : ℤ) → x ≡ y → cond b x (pos 0) ≡ cond b y (pos 0)
same_cond b x y e = ap (λ (t : ℤ). cond b t (pos 0)) e

-- what a batch has in duals over a number of sixtieths
duals_sum : (sixtieths : List ℕ) (over n : ℕ) (batch : List ℕ) → length sixtieths ≡ n → IsStrictlyIncreasing batch
    → ((x : ℕ) → Contains batch x → x < n) → dual_sum n (duals_in sixtieths over) batch ≡ pos (duals_of sixtieths batch * over)
duals_sum sixtieths over n batch count up known =
    let scaled = λ (order : ℕ). slice_index sixtieths order * over in
    same_total n (λ (order : ℕ). cond (has batch order) (number_at (duals_in sixtieths over) order) (pos 0))
    (λ (order : ℕ). cond (has batch order) (pos (scaled order)) (pos 0))
    (λ order low. same_cond (has batch order) _ _ (dual_at sixtieths over order (omega (arith, low, count))))
    ∙ total_under scaled n batch up
    ∙ ap pos (under_all scaled n batch known ∙ sum_times (slice_index sixtieths) over batch)

low_sum : (sixtieths : List ℕ) (over n : ℕ) → length sixtieths ≡ n → sum_of_duals n (duals_in sixtieths over) ≡ pos (sum sixtieths * over)
low_sum sixtieths over n count =
    same_total n (number_at (duals_in sixtieths over)) (λ (place : ℕ). pos (slice_index sixtieths place * over))
    (λ order low. dual_at sixtieths over order (omega (arith, low, count)))
    ∙ total_taken sixtieths over n (omega (arith, count))
    ∙ ap (λ (xs : List ℕ). pos (sum xs * over)) (take_all n sixtieths (omega (arith, count)))

length_in : (sixtieths : List ℕ) (over : ℕ) → length (duals_in sixtieths over) ≡ length sixtieths
unfolding duals_in
length_in sixtieths over = length-map sixtieths (λ (dual : ℕ). pos (dual * over))

times_most_naturals : (k a b : ℕ) → a ≤ b → a * k ≤ b * k
times_most_naturals k a b most = mul-le a k b k most (omega arith)

-- the orders of a permitted batch are those of the wave
pub known_orders : (wave : WavePicks) (pairing : Pairing) (batch : List ℕ) → IsPermitted pairing batch → pairing.orders ≡ length wave.orders
    → (x : ℕ) → Contains batch x → x < length wave.orders
known_orders wave pairing batch permitted as_many x is =
    let low = All-contains (λ (o : ℕ). o < pairing.orders) batch x permitted.known is in omega (arith, low, as_many)

feasible_over : (wave : WavePicks) (pairing : Pairing) (sixtieths : List ℕ) (over : ℕ) → AreFeasible wave pairing sixtieths
    → length sixtieths ≡ length wave.orders → pairing.orders ≡ length wave.orders
    → AreFeasibleOver wave pairing (duals_in sixtieths over) (pos (60 * over))
feasible_over wave pairing sixtieths over feasible count as_many = record {
  are_numbers = record {
    count = length_in sixtieths over ∙ count;
    not_below = λ order low. let is = dual_at sixtieths over order (omega (arith, low, count)) in omega (arith, ints, is);
  };
  within = λ batch long permitted is.
      let sums = duals_sum sixtieths over (length wave.orders) batch count permitted.ascending (known_orders wave pairing batch permitted as_many) in
      let most = times_most_naturals over _ _ (feasible batch long permitted is) in
      omega (arith, ints, sums, most);
}

cover_in : (wave : WavePicks) (pairing : Pairing) (parts : List WeightedBatch) (over : ℕ) → All (IsWeightedBatch wave pairing) parts
    → AreExact (length wave.orders) (60 * over) parts → 1 ≤ over → IsFractionalCover wave pairing (batches_in parts) (weights_in parts) (pos (60 * over))
unfolding batches_in weights_in
cover_in wave pairing parts over each exact some = record {
  above = omega (arith, ints, some);
  count = length-map parts (λ (part : WeightedBatch). pos part.weight) ∙ sym (length-map parts (λ (part : WeightedBatch). part.batch));
  not_below = All-map (λ (w : ℤ). pos 0 ≤ℤ w) (λ (part : WeightedBatch). pos part.weight) parts (λ k d low. omega (arith, ints));
  permitted = All-map (IsPermitted pairing) (λ (part : WeightedBatch). part.batch) parts
      (All-weaker (IsWeightedBatch wave pairing) (λ (part : WeightedBatch). IsPermitted pairing part.batch) (λ part is. is.permitted) parts each);
  exact = λ order low. weights_sum parts order ∙ ap pos (exact order low);
}

-- the bracket of exact parts and of feasible duals
pub bracket_of : (wave : WavePicks) (pairing : Pairing) (parts : List WeightedBatch) (sixtieths : List ℕ) (over : ℕ) (state : RootState) (root : Root)
    → IsRootOf parts sixtieths over state root → All (IsWeightedBatch wave pairing) parts → AreExact (length wave.orders) (60 * over) parts → 1 ≤ over
    → AreFeasible wave pairing sixtieths → length sixtieths ≡ length wave.orders → pairing.orders ≡ length wave.orders → IsBracket wave pairing root
unfolding weights_in batches_in duals_in
bracket_of wave pairing parts sixtieths over state root is each exact some feasible count as_many = record {
  cover =
      subst (λ (bs : List (List ℕ)). IsFractionalCover wave pairing bs root.weights.items root.denominator) (sym is.batches)
      (subst (λ (ws : List ℤ). IsFractionalCover wave pairing (batches_in parts) ws root.denominator) (sym is.weights)
      (subst (λ (q : ℤ). IsFractionalCover wave pairing (batches_in parts) (weights_in parts) q) (sym is.denominator)
      (cover_in wave pairing parts over each exact some)));
  high_is =
      subst (λ (bs : List (List ℕ)). IsWeightedLength wave bs root.weights.items root.high) (sym is.batches)
      (subst (λ (ws : List ℤ). IsWeightedLength wave (batches_in parts) ws root.high) (sym is.weights)
      (subst (λ (h : ℤ). IsWeightedLength wave (batches_in parts) (weights_in parts) h) (sym is.high) (weighted_length wave pairing parts each)));
  high_not_below = omega (arith, ints, is.high);
  feasible =
      subst (λ (ds : List ℤ). AreFeasibleOver wave pairing ds root.denominator) (sym is.duals)
      (subst (λ (q : ℤ). AreFeasibleOver wave pairing (duals_in sixtieths over) q) (sym is.denominator)
      (feasible_over wave pairing sixtieths over feasible count as_many));
  low_is = is.low ∙ sym (low_sum sixtieths over (length wave.orders) count) ∙ ap (sum_of_duals (length wave.orders)) (sym is.duals);
  low_not_below = omega (arith, ints, is.low);
}

-- a part that has an order and a length weighs no more than each order does
pub weights_small : (wave : WavePicks) (pairing : Pairing) (parts : List WeightedBatch) (whole most : ℕ) → All (IsWeightedBatch wave pairing) parts
    → AreExact (length wave.orders) whole parts → pairing.orders ≡ length wave.orders → whole < most → All (λ (part : WeightedBatch). part.weight < most) parts
weights_small wave pairing parts whole most each exact as_many less = λ k d low.
    let part = slice_index_or parts k d in
    let permitted = (each k d low).permitted in
    let order = slice_index part.batch 0 in
    let in_it = Contains-get_or part.batch 0 0 permitted.filled in
    let known = All-contains (λ (o : ℕ). o < pairing.orders) part.batch order permitted.known in_it in
    let own = ap (λ (b : Bool). cond b part.weight 0) (has_true part.batch order in_it) in
    omega (arith, own, get_or-le-sum_by (weight_for order) parts k d low, exact order (omega (arith, known, as_many)), less)

narrow_sum : (n : ℕ) (v : ℕ → ℤ) (s : ℕ → ℕ) (over : ℕ) → ((k : ℕ) → k < n → (pos 60 *ℤ v k) <ℤ (pos (s k + 1) *ℤ pos over))
    → ((pos 60 *ℤ total_below n v) +ℤ pos n) ≤ℤ (total_below n (λ (k : ℕ). pos (s k * over)) +ℤ pos (n * over))
unfolding total_below
narrow_sum zero v s over less = omega (arith, ints)
narrow_sum (suc n) v s over less =
    let before = narrow_sum n v s over (λ k low. less k (omega (arith, low))) in
    let here = less n (omega arith) in
    omega (arith, ints, before, here)

-- a bracket is narrow where its cover costs no more than the duals that were rounded down
pub narrow_of : (n over : ℕ) (duals : List ℤ) (sixtieths : List ℕ) (denominator low high q : ℤ) (cost : ℕ) → 1 ≤ n → length duals ≡ n
    → AreSixtieths duals denominator sixtieths → pos over ≡ denominator → low ≡ pos (sum sixtieths * over) → high ≡ pos cost → q ≡ pos (60 * over)
    → pos cost ≤ℤ (pos 60 *ℤ total_below n (number_at duals)) → IsNarrow n low high q
narrow_of n over duals sixtieths denominator low high q cost some count rounded is low_is high_is q_is most =
    let next = λ (k : ℕ) (within : k < n).
    subst (λ (d : ℤ). (pos 60 *ℤ number_at duals k) <ℤ (pos (slice_index sixtieths k + 1) *ℤ d)) (sym is)
    (rounded.each k (subst (λ (m : ℕ). k < m) (sym count) within)).next in
    let sums = narrow_sum n (number_at duals) (slice_index sixtieths) over next in
    let taken = total_taken sixtieths over n (omega (arith, rounded.count, count))
    ∙ ap (λ (xs : List ℕ). pos (sum xs * over)) (take_all n sixtieths (omega (arith, rounded.count, count))) in
    let product : pos n *ℤ pos (60 * over) ≡ pos (60 * (n * over)) = omega (arith, ints) in
    let right = ap (λ (t : ℤ). pos n *ℤ t) q_is ∙ product in
    omega (arith, ints, some, sums, taken, low_is, high_is, most, right)
