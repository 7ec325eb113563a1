use Rattle.std.proofs.Common.{◌+◌, ap, arith, length}
use Rattle.wp_top.proofs.PlanJournals.{commands_more, most_commands_up_to}
use Rattle.wp_top.proofs.store.count_of.Goals as goal

-- one desk more
pub loop-desk-preserved : goal.loop-desk-preserved
loop-desk-preserved c =
    let scripts = c.args.scripts.now in
    let more = commands_more scripts c.loop-desk.desk c.desks-desk-end.ensures.read (omega (arith, c.loop-desk-test.true, c.desks-desk-end.ensures.desks)) in
    let same = ap length c.script.ensures.script in (
      omega (arith, c.loop-desk.invariant.0, more, same),
      omega (arith, c.loop-desk.invariant.0, more, same, most_commands_up_to scripts (c.loop-desk.desk + 1) c.desks-desk-end.ensures.read),
    )
