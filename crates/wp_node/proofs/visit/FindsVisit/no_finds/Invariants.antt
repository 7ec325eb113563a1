use Rattle.wp_node.specs.Finds.{AreFinds}
use Rattle.wp_node.proofs.visit.FindsVisit.no_finds.Given as goal

abbrev pub invariant-loop : goal.invariant-loop
invariant-loop l = AreFinds l.self.visit.wave l.kept.items
