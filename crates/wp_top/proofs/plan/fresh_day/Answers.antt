use Rattle.std.proofs.Common.{subst}
use Rattle.std.specs.Prelude.{IfOk}
use Rattle.wp_model.specs.History.{History}
use Rattle.wp_top.proofs.plan.fresh_day.Goals as goal
use Rattle.wp_top.specs.Planned.{IsToldOf}
use Rattle.wp_top.specs.Runs.{IsHistoryOf}

pub returns-clause-history : goal.returns-clause-history
returns-clause-history g c =
    let files = c.args.files.now in
    subst (λ (start : History). IfOk c.plan_day.result (λ day. IsHistoryOf files.warehouse.opening files.scripts start day.run.machine)) c.in_ok-machine.ensures
    c.plan_day.ensures.history

pub returns-clause-told : goal.returns-clause-told
returns-clause-told g c =
    let files = c.args.files.now in
    subst (λ (start : History). IfOk c.plan_day.result (λ day. IsToldOf files.warehouse.layout c.args.terms.now start day.run)) c.in_ok-machine.ensures
    c.plan_day.ensures.told
