use Rattle.std.proofs.Common.{◌≡◌, ◌∙◌, subst}
use Rattle.std.proofs.lemmas.Result.{IfOk-weaker}
use Rattle.wp_desk.proofs.GoingOn.{released_from_opening}
use Rattle.wp_desk.specs.GoingOn.{new_entries, released_after}
use Rattle.wp_model.specs.History.{History}
use Rattle.wp_planner.specs.Sent.{sent_waves}
use Rattle.wp_top.proofs.Jobs.{summary_is}
use Rattle.wp_top.proofs.make.summary_of_day.Goals as goal
use Rattle.wp_top.specs.Planned.{IsToldOf}
use Rattle.wp_top.specs.Runs.{IsHistoryOf}
use Rattle.wp_top.specs.Stops.{day_said}
use Rattle.wp_top.specs.Summaries.{made_terms}
use Rattle.wp_words.specs.Reading.{make_numbers}

pub summary_text-requires-clause-waves : goal.summary_text-requires-clause-waves
summary_text-requires-clause-waves g c =
    let run = c.in_ok-day.day in
    subst (λ (start : History). sent_waves run.plans.items ≡ released_after start (new_entries start run.machine)) c.in_ok-machine.ensures
    c.in_ok-day.ensures.told.waves
    ∙ released_from_opening c.args.warehouse.now.opening run.machine c.in_ok-day.ensures.history.starts

pub returns : goal.returns
returns g c =
    let warehouse = c.args.warehouse.now in
    let numbers = make_numbers c.args.words.now in
    let run = c.in_ok-day.day in
    let told = rw c.terms_of.ensures at c.in_ok-day.ensures.told in
    IfOk-weaker c.summary_text.result _ _
    (λ text is. summary_is numbers (day_said warehouse.layout warehouse.opening c.args.scripts.now) run text.items c.requires.made
    (subst (λ (start : History). IsHistoryOf warehouse.opening c.args.scripts.now start run.machine) c.in_ok-machine.ensures c.in_ok-day.ensures.history)
    (subst (λ (start : History). IsToldOf warehouse.layout (made_terms numbers) start run) c.in_ok-machine.ensures told) is)
    c.summary_text.ensures
