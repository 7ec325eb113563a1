use Rattle.std.proofs.Common.{◌≢◌, ◌<◌, ℕ, slice_index_or}
use Rattle.wp_walk.proofs.path.Path.moves_to.Given as goal

abbrev pub invariant-loop-i : goal.invariant-loop-i
invariant-loop-i l = (k : ℕ) → k < l.i → slice_index_or l.fn.self k (record { aisle = 0; slot = 0 }) ≢ l.fn.goal
