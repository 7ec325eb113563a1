-- Where an order is in a list of batches.
use Rattle.std.specs.Prelude.{ℕ, ◌<◌, List, Contains, length}
use Rattle.wp_lengths.specs.Batchings.{batch_at}

-- a place at which the batch has an order
pub record IsPlaceOf (batches : List (List ℕ)) (order place : ℕ) : Type 0 where
  pub within : place < length batches
  pub has : Contains (batch_at batches place) order

-- no batch has an order
abbrev pub IsNowhere : List (List ℕ) → ℕ → Type 0
IsNowhere batches order = (place : ℕ) → place < length batches → Contains (batch_at batches place) order → ⊥
