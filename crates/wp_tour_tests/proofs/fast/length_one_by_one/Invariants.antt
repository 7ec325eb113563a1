use Rattle.std.proofs.Common.{◌≡◌}
use Rattle.wp_tour_tests.proofs.fast.length_one_by_one.Given as goal

abbrev pub invariant-loop-at : goal.invariant-loop-at
invariant-loop-at l = l.runs.layout ≡ l.layout
