use Rattle.std.proofs.Common.{arith}
use Rattle.wp_lengths.proofs.ShareSums.{all_shares, more_shares, no_shares}
use Rattle.wp_lengths.proofs.shares.shares_of.Goals as goal

pub loop-order-init : goal.loop-order-init
loop-order-init c = record { below = no_shares c.args.wave.now c.args.capacity.most; small = omega arith }

pub loop-order-preserved : goal.loop-order-preserved
loop-order-preserved c = record {
  below = rw c.from-total.ensures (more_shares _ _ _ _ _ c.loop-order.invariant.below c.share_of.ensures.is);
  small = omega (arith, c.loop-order.invariant.small, c.share_of.ensures.small, c.from-total.ensures);
}

pub returns : goal.returns
returns c = all_shares _ _ _ _ c.loop-order.invariant.below (omega (
  arith,
  c.loop-order-test.false,
  c.loop-order.auto.order-end,
  c.orders-order-end.ensures.value,
))
