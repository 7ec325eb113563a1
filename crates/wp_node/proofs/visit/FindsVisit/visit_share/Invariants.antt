use Rattle.wp_node.specs.Finds.{AreFindsOf}
use Rattle.wp_node.proofs.visit.FindsVisit.visit_share.Given as goal

abbrev pub invariant-loop-order : goal.invariant-loop-order
invariant-loop-order l = AreFindsOf l.self.visit l.finds.kept.items
