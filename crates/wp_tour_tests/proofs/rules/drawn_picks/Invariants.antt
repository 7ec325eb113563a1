use Rattle.std.proofs.Common.{◌≡◌}
use Rattle.wp_tour_tests.proofs.rules.drawn_picks.Given as goal

abbrev pub invariant-loop : goal.invariant-loop
invariant-loop l = l.picks.layout ≡ l.layout
