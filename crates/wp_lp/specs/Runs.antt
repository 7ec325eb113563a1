-- Priced runs: pools of a wave's batches, to each of which a batch of negative slack was appended.
use Rattle.std.specs.Prelude.{◌≡◌, ℕ, suc, ◌+◌, ◌<◌, List, [], ◌∷◌, ◌++◌, All, Contains, length, map, slice_index, ℤ}
use Rattle.std.specs.Prelude.{pos, ◌*ℤ◌, ◌≤ℤ◌, ◌<ℤ◌}
use Rattle.wp_pairs.specs.Permitted.{IsPermitted, Pairing}
use Rattle.wp_lengths.specs.Batchings.{batch_at}
use Rattle.wp_lengths.specs.Lengths.{IsLengthOf}
use Rattle.wp_lengths.specs.Waves.{WavePicks}
use Rattle.wp_master.specs.Pairs.{AreNumbers, AreOfRun, CoverOrders, FitColumns, length_of, number_at, sum_of}
use Rattle.wp_master.specs.Pools.{AreCovered, ColumnPool}
use Rattle.wp_master.specs.declared.column.Column.{Column}
use Rattle.wp_price.specs.Slacks.{IsSlack}

-- how many pivots a pool is given
abbrev pub most_turns : ℕ
most_turns = 100000

-- the batches of a pool, in the order of adding
abbrev pub batches_of : ColumnPool → List (List ℕ)
batches_of pool = map (λ (column : Column). column.batch) pool.columns

-- a pool of these batches of a wave, with their shortest lengths
pub record IsPoolOf (wave : WavePicks) (batches : List (List ℕ)) (pool : ColumnPool) : Type 0 where
  pub orders : pool.orders ≡ length wave.orders
  pub are : batches_of pool ≡ batches
  pub lengths : All (λ (column : Column). IsLengthOf wave column.batch column.length) pool.columns

-- a pool of permitted batches of a wave, with their shortest lengths
pub record IsPermittedPool (wave : WavePicks) (pairing : Pairing) (pool : ColumnPool) : Type 0 where
  pub orders : pool.orders ≡ length wave.orders
  pub permitted : All (λ (column : Column). IsPermitted pairing column.batch) pool.columns
  pub lengths : All (λ (column : Column). IsLengthOf wave column.batch column.length) pool.columns

-- weights, duals and a denominator that `solve` may answer for a pool: all that it says of an answer holds of them
pub record IsAnswer (pool : ColumnPool) (weights duals : List ℤ) (denominator : ℤ) : Type 0 where
  pub above : pos 0 <ℤ denominator
  pub are_weights : AreNumbers (length pool.columns) weights
  pub are_duals : AreNumbers pool.orders duals
  pub cover : CoverOrders pool weights denominator
  pub fit : FitColumns pool duals denominator
  pub equal : sum_of pool duals ≡ length_of pool weights
  pub run : AreOfRun pool most_turns weights denominator
  pub covered : AreCovered pool pool.orders

-- the sixtieths of a number over a denominator, rounded down
pub record IsSixtieths (value denominator : ℤ) (sixtieths : ℕ) : Type 0 where
  pub reached : (pos sixtieths *ℤ denominator) ≤ℤ (pos 60 *ℤ value)
  pub next : (pos 60 *ℤ value) <ℤ (pos (sixtieths + 1) *ℤ denominator)

-- the sixtieths of duals over a denominator, each rounded down
pub record AreSixtieths (duals : List ℤ) (denominator : ℤ) (sixtieths : List ℕ) : Type 0 where
  pub count : length sixtieths ≡ length duals
  pub each : (order : ℕ) → order < length duals
      → IsSixtieths (number_at duals order) denominator (slice_index sixtieths order)

-- a permitted batch whose slack is negative for the duals, rounded down to sixtieths, that `solve` may answer for the
-- pool of these batches
pub record IsPriced (wave : WavePicks) (pairing : Pairing) (batches : List (List ℕ)) (batch : List ℕ) : Type 0 where
  pub pool : ColumnPool
  pub pool_of : IsPoolOf wave batches pool
  pub weights : List ℤ
  pub duals : List ℤ
  pub denominator : ℤ
  pub answer : IsAnswer pool weights duals denominator
  pub sixtieths : List ℕ
  pub rounded : AreSixtieths duals denominator sixtieths
  pub permitted : IsPermitted pairing batch
  pub slack : ℤ
  pub is_slack : IsSlack wave sixtieths batch slack
  pub negative : slack <ℤ pos 0

-- permitted batches, such that each order is in one of them and in no other
pub record IsBatchingUnder (pairing : Pairing) (batches : List (List ℕ)) : Type 0 where
  pub each : (place : ℕ) → place < length batches → IsPermitted pairing (batch_at batches place)
  pub covered : (order : ℕ) → order < pairing.orders
      → (place : ℕ) × (place < length batches) × Contains (batch_at batches place) order
  pub once : (order left right : ℕ) → left < length batches → right < length batches
      → Contains (batch_at batches left) order
      → Contains (batch_at batches right) order → left ≡ right

-- the last list of a priced run in which so many batches were appended: the first list is a batching, and each further
-- one is the one before with a priced batch appended
pub data PricedRun (wave : WavePicks) (pairing : Pairing) : ℕ → List (List ℕ) → Type 0 where
  start : {batches : List (List ℕ)} → IsBatchingUnder pairing batches → PricedRun wave pairing 0 batches
  onward : {made : ℕ} {batches : List (List ℕ)} {batch : List ℕ} → PricedRun wave pairing made batches
      → IsPriced wave pairing batches batch
      → PricedRun wave pairing (suc made) (batches ++ batch ∷ [])

-- a list that has each permitted batch
abbrev pub HasPermitted : Pairing → List (List ℕ) → Type 0
HasPermitted pairing all = (batch : List ℕ) → IsPermitted pairing batch → Contains all batch
