use Rattle.std.proofs.Common.{◌≡◌}
use Rattle.wp_tour_tests.proofs.rules.picks_seen.Given as goal

abbrev pub invariant-loop-slot : goal.invariant-loop-slot
invariant-loop-slot l = l.picks.layout ≡ l.layout
