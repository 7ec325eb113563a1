-- The net of feasible prices is at most sixty times what a batching of permitted batches costs.
use Rattle.std.proofs.Common.{◌≡◌, ℕ, zero, suc, ◌+◌, ◌-◌, ◌*◌, ◌<◌, ◌≤◌, List, [], ◌∷◌, All, length, arith, refl, sym, subst}
use Rattle.std.specs.Prelude.{sum, slice_index}
use Rattle.std.specs.Int.{◌∣◌}
use Rattle.std.proofs.Math.Nat.{dvd-add}
use Rattle.std.proofs.lemmas.Nat.Gcd.{dvd-zero}
use Rattle.std.proofs.lemmas.List.Sums.{sum_by-append}
use Rattle.wp_pairs.specs.Permitted.{IsPermitted, Pairing}
use Rattle.wp_lengths.specs.Batchings.{IsBatching, IsCost, batch_at}
use Rattle.wp_lengths.specs.Duals.{duals_of}
use Rattle.wp_lengths.specs.Waves.{WavePicks}
use Rattle.wp_lengths.proofs.OrderSums.{all_of, covering_sum, in_all, sum_of_places}
use Rattle.wp_cuts.specs.Counts.{least_batches}
use Rattle.wp_cuts.specs.Cuts.{CutParts, IsRankCut, times_met, times_met_by_all, times_met_by_each}
use Rattle.wp_cuts.specs.Prices.{ArePricesFeasible, NetsAreNoMore, NodePrices, RoundedNetsAreNoMore, net, taken_off, taken_off_all}
use Rattle.wp_cuts.specs.Steps.{IsLayoutStep}
use Rattle.wp_cuts.proofs.ClosedWalks.{closed_walks_are_multiples}
use Rattle.wp_cuts.proofs.CountedBatches.{least_batches_hold}
use Rattle.wp_cuts.proofs.MetCuts.{batchings_meet_no_more}

-- what is taken off each batch of a list, all together
taken_off_each : List CutParts → List ℕ → List (List ℕ) → ℕ
taken_off_each cuts prices [] = 0
taken_off_each cuts prices (batch ∷ batches) = taken_off cuts prices batch + taken_off_each cuts prices batches

-- batches that pay no more than sixty times their lengths pay together no more than sixty times what they cost
batches_pay : (wave : WavePicks) (pairing : Pairing) (cuts : List CutParts) (prices : NodePrices) (batches : List (List ℕ)) (cost : ℕ)
    → ArePricesFeasible wave pairing cuts prices → ((place : ℕ) → place < length batches → IsPermitted pairing (batch_at batches place))
    → IsCost wave batches cost
    → duals_of prices.duals (all_of batches) + length batches * prices.count ≤ 60 * cost + taken_off_each cuts prices.cuts batches
unfolding taken_off_each
batches_pay wave pairing cuts prices [] cost feasible each is = omega (arith, is)
batches_pay wave pairing cuts prices (batch ∷ batches) cost feasible each is =
    let first = feasible batch is.0 (each zero (omega arith)) is.2 in
    let rest = batches_pay wave pairing cuts prices batches is.1 feasible (λ place low. each (suc place) (omega (arith, low))) is.3 in
    let more : (length batches + 1) * prices.count ≡ length batches * prices.count + prices.count = one_more (length batches) prices.count in
    omega (arith, sum_by-append (slice_index prices.duals) batch (all_of batches), first, rest, more, is.4)
  where
    one_more : (n m : ℕ) → (n + 1) * m ≡ n * m + m
    one_more n m = grind arith

-- a cut's price as often as each batch meets it, and what the other cuts take off
first_off : (cut : CutParts) (cuts : List CutParts) (price : ℕ) (prices : List ℕ) (batches : List (List ℕ))
    → taken_off_each (cut ∷ cuts) (price ∷ prices) batches ≡ price * times_met_by_each cut batches + taken_off_each cuts prices batches
unfolding taken_off_each
first_off cut cuts price prices [] = let none : price * 0 ≡ 0 = grind arith in omega (arith, none)
first_off cut cuts price prices (batch ∷ batches) =
    let rest = first_off cut cuts price prices batches in
    let both = apart price (times_met cut batch) (times_met_by_each cut batches) in
    omega (arith, rest, both)
  where
    apart : (p a b : ℕ) → p * (a + b) ≡ p * a + p * b
    apart p a b = grind arith

nothing_off : (prices : List ℕ) (batches : List (List ℕ)) → taken_off_each [] prices batches ≡ 0
unfolding taken_off_each
nothing_off prices [] = refl
nothing_off prices (batch ∷ batches) = omega (arith, nothing_off prices batches)

no_price_off : (cut : CutParts) (cuts : List CutParts) (batches : List (List ℕ)) → taken_off_each (cut ∷ cuts) [] batches ≡ 0
unfolding taken_off_each
no_price_off cut cuts [] = refl
no_price_off cut cuts (batch ∷ batches) = omega (arith, no_price_off cut cuts batches)

-- so no more is taken off the batches of a batching than off all orders
each_off_within : (wave : WavePicks) (capacity : ℕ) (batches : List (List ℕ)) (orders : ℕ) (cuts : List CutParts) (prices : List ℕ)
    → IsBatching wave capacity batches → All (IsRankCut orders) cuts → taken_off_each cuts prices batches ≤ taken_off_all cuts prices
each_off_within wave capacity batches orders [] prices is valid = omega (arith, nothing_off prices batches)
each_off_within wave capacity batches orders (cut ∷ cuts) [] is valid = omega (arith, no_price_off cut cuts batches)
each_off_within wave capacity batches orders (cut ∷ cuts) (price ∷ prices) is valid =
    let met = batchings_meet_no_more wave capacity batches orders cut is (valid 0 cut (omega arith)) in
    let rest = each_off_within wave capacity batches orders cuts prices is (λ k d low. valid (suc k) d (omega (arith, low))) in
    let grown = scaled price (times_met_by_each cut batches) (times_met_by_all cut) met in
    omega (arith, first_off cut cuts price prices batches, rest, grown)
  where
    scaled : (p a b : ℕ) → a ≤ b → p * a ≤ p * b
    scaled p a b low = grind (arith, low)

-- the net of feasible prices is at most sixty times what batches cost that are permitted and have each order, one in none but one, where there are no fewer
pub net_within : (wave : WavePicks) (capacity : ℕ) (pairing : Pairing) (cuts : List CutParts) (prices : NodePrices) (count : ℕ) (batches : List (List ℕ))
    (cost : ℕ) → IsBatching wave capacity batches → count ≤ length batches → All (IsRankCut (length wave.orders)) cuts
    → length prices.duals ≡ length wave.orders → ArePricesFeasible wave pairing cuts prices
    → ((place : ℕ) → place < length batches → IsPermitted pairing (batch_at batches place)) → IsCost wave batches cost
    → net cuts prices count ≤ 60 * cost
net_within wave capacity pairing cuts prices count batches cost is least are_cuts many feasible permitted costs =
    let pay = batches_pay wave pairing cuts prices batches cost feasible permitted costs in
    let off = each_off_within wave capacity batches (length wave.orders) cuts prices.cuts is are_cuts in
    let covers = covering_sum (slice_index prices.duals) (length prices.duals) (all_of batches) (λ order low.
    let at = is.covered order (omega (arith, low, many)) in in_all batches at.0 order at.1 at.2) in
    let counts = scaled prices.count count (length batches) least in
    within (sum prices.duals) (count * prices.count) (taken_off_all cuts prices.cuts) (60 * cost)
    (omega (arith, sum_of_places prices.duals, covers, pay, off, counts))
  where
    scaled : (p a b : ℕ) → a ≤ b → a * p ≤ b * p
    scaled p a b low = grind (arith, low)

    within : (a b c d : ℕ) → a + b ≤ d + c → a + b - c ≤ d
    within a b c d low = omega (arith, low)

-- the net of feasible prices is at most sixty times what a batching of permitted batches costs
pub nets_are_no_more : NetsAreNoMore
nets_are_no_more = λ wave capacity pairing cuts prices batches cost valid some are_cuts count feasible is costs.
    net_within wave capacity pairing cuts prices (least_batches wave capacity) batches cost is.batching
    (least_batches_hold wave capacity batches valid some is.batching) are_cuts count feasible is.permitted costs

-- what batches cost is a multiple of the layout's step
pub cost_is_multiple : (wave : WavePicks) (step : ℕ) (batches : List (List ℕ)) (cost : ℕ) → IsLayoutStep wave.layout step
    → IsCost wave batches cost → step ∣ cost
cost_is_multiple wave step [] cost is costs = subst (λ (n : ℕ). step ∣ n) (sym costs) (dvd-zero step)
cost_is_multiple wave step (batch ∷ batches) cost is costs =
    let first = closed_walks_are_multiples wave.layout step costs.2.some.0 costs.0 is costs.2.some.1.closed in
    let rest = cost_is_multiple wave step batches costs.1 is costs.3 in
    subst (λ (n : ℕ). step ∣ n) (sym costs.4) (dvd-add step first rest)

-- nor is it more, rounded up to a multiple of the step, than that costs
pub rounded_nets_are_no_more : RoundedNetsAreNoMore
rounded_nets_are_no_more = λ wave capacity pairing cuts prices batches cost step bound valid some are_cuts count feasible is costs steps rounded.
    rounded.least cost (cost_is_multiple wave step batches cost steps costs)
    (nets_are_no_more wave capacity pairing cuts prices batches cost valid some are_cuts count feasible is costs)
