use Rattle.std.proofs.Common.{◌<◌, ◌≤◌, ℕ, slice_index_or}
use Rattle.wp_pairs.proofs.cart.are_light.Given as goal

abbrev pub invariant-loop-load : goal.invariant-loop-load
invariant-loop-load l = (k d : ℕ) → k < l.load-index → slice_index_or l.fn.loads k d ≤ l.fn.units
