use Rattle.std.proofs.Common.{below_more}
use Rattle.wp_planner.proofs.released.are_filled.Goals as goal

pub loop-order-preserved : goal.loop-order-preserved
loop-order-preserved c = below_more _ _ c.loop-order.invariant (c.has_hold.ensures.0 c.if-not-has_hold.false)
