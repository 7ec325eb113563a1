use Rattle.std.proofs.Common.{sym, ◌∙◌, ap, not, ne_eqb, eq-eqb}
use Rattle.wp_book.proofs.HoldSums.{other_wave-of}
use Rattle.wp_book.proofs.holds.node_holds_none.Goals as goal

pub returns-then-node-wave : goal.returns-then-node-wave
returns-then-node-wave c =
    ap not (ne_eqb _ _ c.if-node-wave.true) ∙ sym (eq-eqb _ 0 (other_wave-of c.args.node.now.wave c.args.wave c.args.node.now.holds c.if-node-wave.true))
