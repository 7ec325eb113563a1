use Rattle.std.proofs.Common.{arith}
use Rattle.wp_lengths.proofs.duals.OrderDuals.limited.Goals as goal

pub invariant_of-result : goal.invariant_of-result
invariant_of-result c = record {
  few = omega (arith, c.loop-order.invariant.count, c.loop-order.auto.order-end, c.requires);
  within = c.loop-order.invariant.within;
}
