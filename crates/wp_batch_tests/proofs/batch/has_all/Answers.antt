use Rattle.std.proofs.Common.{below_more}
use Rattle.wp_batch_tests.proofs.batch.has_all.Goals as goal

pub loop-order-preserved : goal.loop-order-preserved
loop-order-preserved c = below_more _ _ c.loop-order.invariant (c.has.ensures.exact.0 c.if-not-has.false)
