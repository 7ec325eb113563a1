use Rattle.std.proofs.Common.{◌≤◌, ◌+◌, length}
use Rattle.wp_turn.specs.Promises.{IsOf, own_calls}
use Rattle.wp_turn.specs.Rule.{most_calls}
use Rattle.wp_outside_tests.proofs.turns.add.Given as goal

abbrev pub invariant-loop-number : goal.invariant-loop-number
invariant-loop-number g l = record {
  own : IsOf l.turn l.pass;
  few : length (own_calls l.pass) + l.times ≤ most_calls + l.number;
}
