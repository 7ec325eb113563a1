use Rattle.std.proofs.Common.{arith}
use Rattle.wp_book.proofs.HoldSums.{other_wave-for}
use Rattle.wp_book.proofs.holds.take_from_node.Goals as goal

pub returns-else-node-wave-clause-left : goal.returns-else-node-wave-clause-left
returns-else-node-wave-clause-left c =
    omega (arith, other_wave-for c.args.node.now.wave c.args.wave c.args.order c.args.row c.args.node.now.holds c.if-node-wave.false)
