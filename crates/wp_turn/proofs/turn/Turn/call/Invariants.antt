use Rattle.std.proofs.Common.{◌≡◌, ◌≤◌, ◌+◌, length}
use Rattle.wp_turn.specs.Promises.{Follow, own_calls}
use Rattle.wp_turn.specs.Rule.{most_calls}
use Rattle.wp_turn.proofs.Calling.{Waits}
use Rattle.wp_turn.proofs.turn.Turn.call.Given as goal

abbrev pub invariant-turns : goal.invariant-turns
invariant-turns g l = record {
  own : l.seat.table_id ≡ l.fn.self.id;
  waits : Waits g.V.Turned.entries g.V.Turned.setting l.fn.self.start l.fn.pass.caller l.fn.pass.callers l.place l.seat.me;
  follow : Follow l.fn.pass l.seat.me.0.calls;
  left : most_calls ≤ l.seat.me.0.left + (length (own_calls l.fn.pass) + 1);
}
