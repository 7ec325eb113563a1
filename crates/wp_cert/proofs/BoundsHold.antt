-- The share duals are feasible, and so no batching costs less than the bound of a right tree.
use Rattle.std.proofs.Common.{ℕ, ◌*◌, ◌/◌, ◌<◌, ◌≤◌, List, [], ◌∷◌, length, arith, refl, sym, subst, ⊎_elim, Contains}
use Rattle.std.proofs.Common.{mul-le-mul_right, div-mul-le_self}
use Rattle.std.specs.Int.{◌∣◌}
use Rattle.std.specs.Prelude.{None, Option, Some, slice_index}
use Rattle.std.proofs.Math.Nat.{mul-div-le, one-dvd}
use Rattle.std.proofs.lemmas.Nat.{le-div}
use Rattle.std.proofs.lemmas.List.Sums.{sum_by-le}
use Rattle.std.proofs.lemmas.List.Elements.{All-contains}
use Rattle.wp_pairs.proofs.Members.{contains_cases, contains_none}
use Rattle.wp_lengths.specs.Batchings.{IsBatching, no_pairs}
use Rattle.wp_lengths.specs.Lengths.{IsLengthOf}
use Rattle.wp_lengths.specs.Waves.{WavePicks}
use Rattle.wp_lengths.proofs.Unions.{all_from_contained}
use Rattle.wp_cert.specs.Bounds.{BoundsHold}
use Rattle.wp_lengths.specs.Duals.{AreFeasible, AreShares, IsShare}
use Rattle.wp_cuts.specs.Cuts.{CutParts}
use Rattle.wp_cuts.proofs.CountedBatches.{least_batches_hold}
use Rattle.wp_cuts.proofs.Nets.{cost_is_multiple}
use Rattle.wp_cert.specs.Terms.{AreTermsFor, terms_of}
use Rattle.wp_cert.proofs.Costs.{AreSound, Respects, sum_within, tree_bounds}
use Rattle.wp_lengths.proofs.FewerOrders.{more_orders_no_shorter}

-- an order alone is no longer than a batch that has it, so its share is no more than the batch's
share_within : (wave : WavePicks) (capacity order share : ℕ) (batch : List ℕ) (total : ℕ) → 1 ≤ capacity → IsShare wave capacity order share
    → Contains batch order → IsLengthOf wave batch total → share ≤ 60 * total / capacity
share_within wave capacity order share batch total some is has long =
    let short = more_orders_no_shorter wave (order ∷ []) batch is.total total
    (λ other one. ⊎_elim (λ e. subst (λ (o : ℕ). Contains batch o) e has) (λ none. absurd (contains_none other none)) (contains_cases order other [] one))
    is.alone long in
    let whole : 60 * is.total / capacity * capacity ≤ 60 * total = omega (arith, div-mul-le_self (60 * is.total) capacity, short) in
    subst (λ (s : ℕ). s ≤ 60 * total / capacity) (sym is.is) (le-div (60 * is.total / capacity) (60 * total) capacity (omega (arith, some)) whole)

-- the share duals are feasible where no pair was added
pub shares_feasible : (wave : WavePicks) (capacity : ℕ) (shares : List ℕ) → 1 ≤ capacity → AreShares wave capacity shares
    → AreFeasible wave (no_pairs wave capacity) shares
shares_feasible wave capacity shares some are = λ batch total permitted long.
    let each = all_from_contained (λ order. slice_index shares order ≤ 60 * total / capacity) batch
    (λ order has. share_within wave capacity order (slice_index shares order) batch total some
    (are.each order (All-contains (λ o. o < length wave.orders) batch order permitted.known has)) has long) in
    let sums = sum_by-le (slice_index shares) (60 * total / capacity) batch each in
    let wide : length batch * (60 * total / capacity) ≤ capacity * (60 * total / capacity) = mul-le-mul_right (60 * total / capacity) permitted.fits in
    omega (arith, sums, wide, mul-div-le (60 * total) capacity)

-- a batching respects that there is no pair
batching_respects : (wave : WavePicks) (capacity : ℕ) (batches : List (List ℕ)) → IsBatching wave capacity batches → Respects (no_pairs wave capacity) batches
batching_respects wave capacity batches is = record { each = is.each; covered = is.covered; once = is.once }

-- on the terms of a tree bounds hold
pub sound_terms : (wave : WavePicks) (capacity step : ℕ) (cuts : Option (List CutParts)) → 1 ≤ capacity → AreTermsFor wave cuts step
    → AreSound (terms_of wave capacity cuts step) capacity
sound_terms wave capacity step None some are = record {
  cuts = λ k d low. absurd (omega (arith, low));
  counted = λ batches is. omega arith;
  multiple = λ batches cost costs. subst (λ (n : ℕ). n ∣ cost) (sym are) (one-dvd cost);
}
sound_terms wave capacity step (Some cuts) some are = record {
  cuts = are.1.each;
  counted = λ batches is. least_batches_hold wave capacity batches are.0 some is;
  multiple = λ batches cost costs. cost_is_multiple wave step batches cost are.2 costs;
}

-- no batching costs less than the bound of a right tree
pub bounds_hold : BoundsHold
bounds_hold = λ wave capacity tree bound some right batches cost is costs.
    let pairing = no_pairs wave capacity in
    let respects = batching_respects wave capacity batches is in
    let sums = right.3 in
    let low = sum_within wave pairing sums.0 batches cost sums.1.count (shares_feasible wave capacity sums.0 some sums.1) respects costs in
    let above : right.1 ≤ 60 * cost = omega (arith, low, sums.2) in
    tree_bounds (terms_of wave capacity tree.cuts right.0) capacity (sound_terms wave capacity right.0 tree.cuts some right.2) batches cost is costs pairing
    right.1 tree.nodes [] (Some bound) refl right.4 respects above
