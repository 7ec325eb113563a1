use Rattle.std.proofs.Common.{rules}
use Rattle.wp_top.proofs.Waves.{told_as}
use Rattle.wp_top.proofs.day.run_day.Goals as goal

pub returns-clause-told : goal.returns-clause-told
returns-clause-told g c =
    let run = c.run_planned.ensures in
    told_as c.args.warehouse.now.layout c.args.terms.now c.args.warehouse.now.opening c.args.scripts.now c.args.machine _ c.run_planned.result
    c.args.warehouse.now.read (run.history c.args.warehouse.now.read) run.waves
    run.refills run.plans (λ wave plan made. search rules)
