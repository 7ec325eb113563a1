use Rattle.std.proofs.Common.{refl}
use Rattle.wp_master.proofs.Covers.{covered_more}
use Rattle.wp_master.proofs.pool.Pool.first_uncovered.Goals as goal

pub loop-order-preserved : goal.loop-order-preserved
loop-order-preserved c = covered_more c.args.self.now c.loop-order.order c.loop-order.invariant (c.if-not-covers.ensures.0 refl)
