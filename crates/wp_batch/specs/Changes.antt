-- In which round the batches of a batching changed last.
use Rattle.std.specs.Prelude.{ℕ, ◌+◌, ◌<◌, ◌≤◌, slice_index}
use Rattle.wp_batch.specs.declared.changes.Changes.{Changes}

-- a batch has changed in this round or the one before it; of a place past all that are kept it is taken to have
abbrev pub HasChanged : Changes → ℕ → Type 0
HasChanged changes place = place < 64 → changes.round ≤ slice_index changes.changed place + 1
