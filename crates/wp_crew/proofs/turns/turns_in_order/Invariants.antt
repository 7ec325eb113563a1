use Rattle.wp_crew.proofs.FallingTurns.{AreInOrder}
use Rattle.wp_crew.proofs.turns.turns_in_order.Given as goal

abbrev pub invariant-loop-place : goal.invariant-loop-place
invariant-loop-place l = AreInOrder l.lengths l.turns.items l.place
