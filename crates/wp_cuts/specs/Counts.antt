-- The least number of batches of a wave: how many it has at least, whatever batching it is put into.
use Rattle.std.specs.Prelude.{ℕ, ◌≤◌, max, sum, List, Option, None, Some, length}
use Rattle.std.specs.Int.{div_ceil}
use Rattle.wp_pairs.specs.Carts.{LoadedCart}
use Rattle.wp_lengths.specs.Batchings.{IsBatching}
use Rattle.wp_lengths.specs.Waves.{IsWave, WavePicks}

-- how many carts the loads of all orders fill: their sum over the units, rounded up; none where there is no cart
abbrev pub carts_filled : Option LoadedCart → ℕ
carts_filled None = 0
carts_filled (Some held) = div_ceil (sum held.loads) held.units

-- The least number of batches of a wave for a capacity: its orders over the capacity, rounded up, or as many as fill
-- carts with their loads, whichever is more.
abbrev pub least_batches : WavePicks → ℕ → ℕ
least_batches wave capacity = max (div_ceil (length wave.orders) capacity) (carts_filled wave.cart)

-- each batching of a wave has at least so many batches
abbrev pub BatchingsHaveTheLeastBatches : Type 0
BatchingsHaveTheLeastBatches = (wave : WavePicks) (capacity : ℕ) (batches : List (List ℕ)) → IsWave wave → 1 ≤ capacity
    → IsBatching wave capacity batches → least_batches wave capacity ≤ length batches
