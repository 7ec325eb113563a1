-- Each batching has at least the least number of batches.
use Rattle.std.proofs.Common.{◌≡◌, ℕ, zero, suc, ◌+◌, ◌*◌, ◌/◌, ◌%◌, ◌<◌, ◌≤◌, List, [], ◌∷◌, length, arith, ap, sym}
use Rattle.std.proofs.Common.{replicate, ⊎_elim, Contains, Option, None, Some}
use Rattle.std.specs.Prelude.{sum, sum_by, slice_index, min}
use Rattle.std.specs.Int.{div_ceil}
use Rattle.std.proofs.Math.Nat.{max-le}
use Rattle.std.proofs.lemmas.Grind.{div_ceil_times}
use Rattle.std.proofs.lemmas.Bool.{cases_lt}
use Rattle.std.proofs.lemmas.List.{get_or-replicate, length-replicate}
use Rattle.std.proofs.lemmas.List.Folds.{sum_by-replicate}
use Rattle.std.proofs.lemmas.List.Sums.{sum_by-append}
use Rattle.wp_pairs.specs.Carts.{FitsAnyCart, IsCartFor, LoadedCart}
use Rattle.wp_pairs.proofs.Classes.{ones}
use Rattle.wp_lengths.specs.Batchings.{IsBatching, batch_at}
use Rattle.wp_lengths.specs.Waves.{WavePicks}
use Rattle.wp_lengths.proofs.OrderSums.{all_of, covering_sum, in_all, same_below, sum_below, sum_of_places}
use Rattle.wp_cuts.specs.Counts.{BatchingsHaveTheLeastBatches, carts_filled}

-- what no batch weighs more than, so many batches don't weigh more than so often
weigh_each : (f : ℕ → ℕ) (most : ℕ) (batches : List (List ℕ)) → ((place : ℕ) → place < length batches → sum_by f (batch_at batches place) ≤ most)
    → sum_by f (all_of batches) ≤ length batches * most
weigh_each f most [] each = omega arith
weigh_each f most (batch ∷ batches) each =
    let first = each zero (omega arith) in
    let rest = weigh_each f most batches (λ place low. each (suc place) (omega (arith, low))) in
    let more : (length batches + 1) * most ≡ length batches * most + most = one_more (length batches) most in
    omega (arith, sum_by-append f batch (all_of batches), first, rest, more)
  where
    one_more : (n m : ℕ) → (n + 1) * m ≡ n * m + m
    one_more n m = grind arith

ordered_times : (step n m : ℕ) → n ≤ m → n * step ≤ m * step
ordered_times step n m low = grind (arith, low)

pub one_more_times : (n m : ℕ) → (n + 1) * m ≡ n * m + m
one_more_times n m = grind arith

-- a quotient that is rounded up is no more than what times the divisor is enough
pub ceil_at_most : (many most count : ℕ) → 1 ≤ most → many ≤ count * most → div_ceil many most ≤ count
ceil_at_most many most count some enough =
    let times = div_ceil_times many most some in
    let n = many / most + min 1 (many % most) in
    ⊎_elim
    (λ (high : count < n). let l = ordered_times most (count + 1) n (omega (arith, high)) in
    absurd (omega (arith, l, one_more_times count most, times.1, enough)))
    (λ (low : n ≤ count). low)
    (cases_lt count n)

-- as many ones as there are numbers below one
ones_below : (n : ℕ) → sum_below (λ (x : ℕ). 1) n ≡ n
ones_below n =
    let list = replicate n 1 in
    let same = same_below (λ (x : ℕ). 1) (slice_index list) n (λ k low. sym (get_or-replicate {A = ℕ} n k 1 0 low)) in
    let counted = ap (λ (k : ℕ). sum_below (slice_index list) k) (length-replicate {A = ℕ} n 1) in
    omega (arith, same, counted, sum_of_places list, sum_by-replicate (λ (x : ℕ). x) n 1)

-- all orders are in so many batches
enough_places : (wave : WavePicks) (capacity : ℕ) (batches : List (List ℕ)) → IsBatching wave capacity batches
    → length wave.orders ≤ length batches * capacity
enough_places wave capacity batches is =
    let covers = covering_sum (λ (x : ℕ). 1) (length wave.orders) (all_of batches)
    (λ order low. let at = is.covered order low in in_all batches at.0 order at.1 at.2) in
    let each = weigh_each (λ (x : ℕ). 1) capacity batches (λ place low. omega (arith, ones (batch_at batches place), (is.each place low).fits)) in
    omega (arith, covers, each, ones_below (length wave.orders))

-- all loads are in so many carts
carts_enough : (cart : Option LoadedCart) (orders : ℕ) (batches : List (List ℕ)) → IsCartFor cart orders
    → ((place : ℕ) → place < length batches → FitsAnyCart cart (batch_at batches place)) → ((order : ℕ) → order < orders → (place : ℕ)
    × (place < length batches) × Contains (batch_at batches place) order) → carts_filled cart ≤ length batches
carts_enough None orders batches is light covered = omega arith
carts_enough (Some held) orders batches is light covered =
    let loads = slice_index held.loads in
    let covers = covering_sum loads (length held.loads) (all_of batches)
    (λ order low. let at = covered order (omega (arith, low, is.1)) in in_all batches at.0 order at.1 at.2) in
    let each = weigh_each loads held.units batches light in
    ceil_at_most (sum held.loads) held.units (length batches) is.0.units.0 (omega (arith, sum_of_places held.loads, covers, each))

-- each batching has at least the least number of batches
pub least_batches_hold : BatchingsHaveTheLeastBatches
least_batches_hold = λ wave capacity batches valid some is. max-le
    (ceil_at_most (length wave.orders) capacity (length batches) some (enough_places wave capacity batches is))
    (carts_enough wave.cart (length wave.orders) batches valid.cart (λ place low. (is.each place low).light) is.covered)
