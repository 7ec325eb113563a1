use Rattle.std.proofs.lemmas.List.Elements.{All-push}
use Rattle.wp_node.specs.Finds.{IsFind}
use Rattle.wp_node.proofs.visit.FindsVisit.no_finds.Goals as goal

pub loop-preserved : goal.loop-preserved
loop-preserved c = rw c.in_ok-push.ensures.items (All-push (IsFind c.args.self.now.visit.wave) _ _ c.loop.invariant c.no_find.ensures)
