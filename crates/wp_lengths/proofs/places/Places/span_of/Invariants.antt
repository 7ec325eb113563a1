use Rattle.std.proofs.Common.{◌≤◌}
use Rattle.wp_lengths.proofs.places.Places.span_of.Given as goal

abbrev pub invariant-loop-count : goal.invariant-loop-count
invariant-loop-count l = l.next ≤ 64
