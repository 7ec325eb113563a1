use Rattle.std.proofs.Common.{◌<◌, ℕ, slice_index_or}
use Rattle.wp_model.specs.Limits.{greatest_length}
use Rattle.wp_model.specs.Warehouse.{IsUpTo}
use Rattle.wp_graph.proofs.layout.are_lengths.Given as goal

abbrev pub invariant-loop-length : goal.invariant-loop-length
invariant-loop-length l = (k d : ℕ) → k < l.length-index → IsUpTo greatest_length (slice_index_or l.fn.lengths k d)
