-- Duals that are raised, order by order, until each order has a tight batch.
use Rattle.std.specs.Prelude.{◌≡◌, ℕ, ◌+◌, ◌<◌, ◌≤◌, ◌^◌, List, [], Contains, length, slice_index, slice_index_or}
use Rattle.wp_pairs.specs.Permitted.{AreHeldBelow, Pairing}
use Rattle.wp_lengths.specs.Batchings.{no_pairs}
use Rattle.wp_lengths.specs.Lengths.{IsLengthOf}
use Rattle.wp_lengths.specs.Waves.{WavePicks}
use Rattle.wp_lengths.specs.Duals.{AreFeasible, IsTightFor, duals_of, sixtieths_of}

-- duals that stand above a node: one for each order of the wave, and feasible there
pub record AreFeasibleDuals (wave : WavePicks) (pairing : Pairing) (duals : List ℕ) : Type 0 where
  pub count : length duals ≡ length wave.orders
  pub feasible : AreFeasible wave pairing duals

-- duals with which a node begins, at which no order is dead
pub record IsStart (wave : WavePicks) (pairing : Pairing) (duals : List ℕ) : Type 0 where
  pub held : AreHeldBelow pairing pairing.orders
  pub above : AreFeasibleDuals wave pairing duals

-- the orders of a wave, its cart and a capacity, with no pair added
abbrev pub root_of : WavePicks → ℕ → Pairing
root_of wave capacity = no_pairs wave capacity

-- what a batch may have more in duals: with it they come to sixty times its length
pub record IsRoom (wave : WavePicks) (duals batch : List ℕ) (room : ℕ) : Type 0 where
  pub total : ℕ
  pub long : IsLengthOf wave batch total
  pub small : total < 2 ^ 28
  pub equal : duals_of duals batch + room ≡ sixtieths_of total

-- no dual is lower than before
abbrev pub AreNoLower : List ℕ → List ℕ → Type 0
AreNoLower before after = (order : ℕ) → slice_index before order ≤ slice_index after order

-- a batch is listed for each of the first orders, which is tight for it
pub record AreListedTight (wave : WavePicks) (pairing : Pairing) (duals : List ℕ) (orders : ℕ)
    (tight : List (List ℕ)) : Type 0 where
  pub count : length tight ≡ orders
  pub each : (order : ℕ) → order < orders → IsTightFor wave pairing duals order (slice_index_or tight order [])

-- one of the batches that are listed has an order
pub record IsListedWith (listed : List (List ℕ)) (order : ℕ) (batch : List ℕ) : Type 0 where
  pub place : ℕ
  pub within : place < length listed
  pub is : slice_index_or listed place [] ≡ batch
  pub holds : Contains batch order
