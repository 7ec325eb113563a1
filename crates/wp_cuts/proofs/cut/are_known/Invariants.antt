use Rattle.std.proofs.Common.{◌<◌, ℕ, slice_index_or}
use Rattle.wp_cuts.proofs.cut.are_known.Given as goal

abbrev pub invariant-loop-order : goal.invariant-loop-order
invariant-loop-order l = (k d : ℕ) → k < l.order-index → slice_index_or l.fn.orders k d < l.fn.count
