use Rattle.wp_cert.specs.Ways.{IsWay}
use Rattle.wp_cert.proofs.checking.check_root.Given as goal

abbrev pub invariant-loop-at : goal.invariant-loop-at
invariant-loop-at l = IsWay l.tree.terms.now l.tree.capacity.most l.tree.nodes.now l.above l.way.path.items l.way.notes.items l.way.above l.at
