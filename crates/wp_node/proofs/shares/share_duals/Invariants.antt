use Rattle.wp_node.proofs.ShareLists.{AreSharesBelow}
use Rattle.wp_node.proofs.shares.share_duals.Given as goal

abbrev pub invariant-loop-order : goal.invariant-loop-order
invariant-loop-order l = AreSharesBelow l.wave l.capacity.most l.order l.duals.items
