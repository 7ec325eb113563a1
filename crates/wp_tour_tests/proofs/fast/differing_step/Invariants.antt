use Rattle.std.proofs.Common.{◌≡◌}
use Rattle.wp_tour_tests.proofs.fast.differing_step.Given as goal

abbrev pub invariant-loop-step : goal.invariant-loop-step
invariant-loop-step l = record { picks : l.picks.layout ≡ l.layout; runs : l.runs.layout ≡ l.layout }
