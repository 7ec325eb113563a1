use Rattle.std.proofs.Common.{◌≡◌}
use Rattle.wp_tour_tests.proofs.ends.picked.Given as goal

abbrev pub invariant-loop-aisle : goal.invariant-loop-aisle
invariant-loop-aisle l = l.picks.layout ≡ l.layout
