use Rattle.std.proofs.Common.{sym}
use Rattle.wp_book.proofs.HoldSums.{other_wave-for}
use Rattle.wp_book.proofs.holds.units_in_node.Goals as goal

pub returns-else-node-wave : goal.returns-else-node-wave
returns-else-node-wave c =
    sym (other_wave-for c.args.node.now.wave c.args.wave c.args.order c.args.row c.args.node.now.holds c.if-node-wave.false)
