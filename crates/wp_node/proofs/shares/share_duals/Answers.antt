use Rattle.wp_node.proofs.ShareLists.{one_more_share}
use Rattle.wp_node.proofs.shares.share_duals.Goals as goal

pub loop-order-preserved : goal.loop-order-preserved
loop-order-preserved c =
    rw c.in_ok-push.ensures.items (one_more_share _ _ _ _ _ c.loop-order.invariant c.share_of.ensures.is c.share_of.ensures.small)
