-- What a cut keeps, so that it can be met by counting: for each part the orders that have it.
use Rattle.std.specs.Prelude.{◌≡◌, ℕ, ◌+◌, ◌<◌, ◌↔◌, List, [], Contains, length, slice_index, slice_index_or}

-- at a place below an end an order stands in one list, and beside it this part in the other
abbrev pub StandsBelow : List ℕ → List ℕ → ℕ → ℕ → ℕ → Type 0
StandsBelow orders parts end part order = (place : ℕ) × (place < end) × (slice_index orders place ≡ order)
    × (slice_index parts place ≡ part)

-- seven lists of orders: in the first are those with part 1, and so on
pub record AreKinds (orders parts : List ℕ) (kinds : List (List ℕ)) : Type 0 where
  pub whole : length kinds ≡ 7
  pub each : (kind order : ℕ) → kind < 7
      → (Contains (slice_index_or kinds kind []) order ↔ StandsBelow orders parts (length orders) (kind + 1) order)
