use Rattle.std.proofs.Common.{subst}
use Rattle.std.proofs.lemmas.List.Elements.{All-tail}
use Rattle.std.specs.List.{All}
use Rattle.wp_desk.specs.Work.{IsFresh}
use Rattle.wp_desk.proofs.desks.next_desk.Goals as goal

pub returns-in-Some-clause-fresh : goal.returns-in-Some-clause-fresh
returns-in-Some-clause-fresh c =
    All-tail (IsFresh c.args.day.now.turn c.args.scripts.now) c.in-Some.pass c.next.new.self.list
    (subst (All (IsFresh c.args.day.now.turn c.args.scripts.now)) c.in-Some.ensures.list c.requires.fresh)
