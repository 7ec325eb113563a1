use Rattle.std.proofs.Common.{◌<◌, ◌≤◌, ℕ, slice_index_or}
use Rattle.wp_cuts.proofs.cut.are_parts.Given as goal

abbrev pub invariant-loop-part : goal.invariant-loop-part
invariant-loop-part l = (k d : ℕ) → k < l.part-index
    → (1 ≤ slice_index_or l.fn.parts k d) × (slice_index_or l.fn.parts k d < l.fn.divisor)
