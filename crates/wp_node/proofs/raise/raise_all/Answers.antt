use Rattle.wp_node.proofs.DualSums.{no_lower_through}
use Rattle.wp_node.proofs.Raises.{one_more_tight}
use Rattle.wp_node.proofs.raise.raise_all.Goals as goal

pub loop-order-preserved : goal.loop-order-preserved
loop-order-preserved g c = record {
  start = c.tighten.ensures.start;
  no_lower = no_lower_through _ c.loop-order.duals _ c.loop-order.invariant.no_lower c.tighten.ensures.no_lower;
  tight = rw c.in_ok-push.ensures.items (one_more_tight _ _ c.loop-order.duals _ _ _ _ c.tighten.ensures.no_lower c.tighten.ensures.start.above.feasible
      c.loop-order.invariant.tight c.in_ok-batch.ensures.tight);
}
