use Rattle.wp_node.specs.Finds.{AreFinds}
use Rattle.wp_node.proofs.visit.FindsVisit.together.Given as goal

abbrev pub invariant-loop-part : goal.invariant-loop-part
invariant-loop-part l = AreFinds l.self.visit.wave l.kept.items
