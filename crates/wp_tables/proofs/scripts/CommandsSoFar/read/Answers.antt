use Rattle.std.proofs.Common.{arith}
use Rattle.wp_tables.proofs.scripts.CommandsSoFar.read.Goals as goal

pub returns-then-has_room-clause-follows : goal.returns-then-has_room-clause-follows
returns-then-has_room-clause-follows c = record {
  room = rw (← c.self.view_is) (omega (arith, c.if-len-ge-MOST_COMMANDS.false, c.len.ensures));
  read = c.in_ok-asked.ensures.read;
}
