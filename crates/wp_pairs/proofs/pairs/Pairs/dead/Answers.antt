use Rattle.std.proofs.Common.{below_more}
use Rattle.wp_pairs.proofs.pairs.Pairs.dead.Goals as goal

pub loop-order-preserved : goal.loop-order-preserved
loop-order-preserved c = below_more _ _ c.loop-order.invariant (c.is_held.ensures.held c.if-not-is_held.false)
