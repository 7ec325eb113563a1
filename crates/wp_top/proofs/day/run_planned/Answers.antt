use Rattle.wp_top.proofs.Waves.{history_of}
use Rattle.wp_top.proofs.day.run_planned.Goals as goal

pub returns-clause-history : goal.returns-clause-history
returns-clause-history g c =
    let run = c.run_desks.ensures in
    history_of c.args.opening.now c.args.scripts.now c.args.machine c.run_desks.result run.opening run.goes_on run.legal run.parts run.sound
