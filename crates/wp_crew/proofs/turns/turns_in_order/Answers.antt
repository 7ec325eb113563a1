use Rattle.std.proofs.Common.{arith}
use Rattle.wp_crew.proofs.FallingTurns.{turns_in_order}
use Rattle.wp_crew.proofs.turns.turns_in_order.Goals as goal

pub returns : goal.returns
returns c = turns_in_order c.args.lengths.now c.loop-place.turns.items c.loop-place.place c.loop-place.invariant (omega arith)
