-- First items and the shares of workers.
use Rattle.std.specs.Prelude.{ℕ, ◌<◌, List, [], Contains, length, slice_index_or}

-- an order is in the share of some worker
abbrev pub IsDealt : List (List ℕ) → ℕ → Type 0
IsDealt shares order = (worker : ℕ) × (worker < length shares) × Contains (slice_index_or shares worker []) order
