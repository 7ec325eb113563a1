use Rattle.std.proofs.Common.{◌≡◌}
use Rattle.wp_tour_tests.proofs.ends.joined_length.Given as goal

abbrev pub invariant-loop-at : goal.invariant-loop-at
invariant-loop-at l = l.runs.layout ≡ l.layout
