use Rattle.std.proofs.Common.{rules}
use Rattle.wp_tables.proofs.KeptCommands.{kept_more}
use Rattle.wp_tables.proofs.scripts.CommandsSoFar.add.Goals as goal

pub invariant_of-self-2 : goal.invariant_of-self-2
invariant_of-self-2 c =
    let may = rw (← c.self.view_is) at c.requires in
    rw (c.in_ok-push.ensures.items, c.max-desks.ensures)
    (kept_more c.self.inside.commands.items c.self.inside.submissions c.self.inside.desks c.from-more.result c.args.asked c.self.invariant may
    (search rules))
