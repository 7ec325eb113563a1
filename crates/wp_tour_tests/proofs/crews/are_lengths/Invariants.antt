use Rattle.std.proofs.Common.{ℕ, ◌<◌, ◌≤◌, ◌^◌, slice_index_or}
use Rattle.wp_tour_tests.proofs.crews.are_lengths.Given as goal

abbrev pub invariant-loop-length : goal.invariant-loop-length
invariant-loop-length l = (k d : ℕ) → k < l.length-index → (1 ≤ slice_index_or l.fn.lengths k d) × (slice_index_or l.fn.lengths k d ≤ 2 ^ 40)
