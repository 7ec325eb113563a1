use Rattle.std.proofs.Common.{◌≤◌, List, length, subst, sym}
use Rattle.wp_planner.specs.Sent.{ArePlanned, Sent}
use Rattle.wp_top.proofs.FewWaves.{few_waves}
use Rattle.wp_top.proofs.day.plan_day.Goals as goal

pub crew_for-requires-clause-planned : goal.crew_for-requires-clause-planned
crew_for-requires-clause-planned g c =
    let day = c.in_ok-run.run' in
    let layout = c.args.files.now.warehouse.layout in (
      layout,
      day.machine.opening,
      c.args.terms.now,
      subst (ArePlanned layout day.machine.opening c.args.terms.now) (sym c.as_slice.ensures.value) c.in_ok-run.ensures.told.planned,
    )

pub crew_for-requires-clause-few : goal.crew_for-requires-clause-few
crew_for-requires-clause-few g c =
    subst (λ (sent : List Sent). length sent ≤ 10000) (sym c.as_slice.ensures.value)
    (few_waves c.args.files.now.warehouse.layout c.args.terms.now c.args.files.now.warehouse.opening c.args.files.now.scripts c.args.machine c.in_ok-run.run'
    c.requires.read c.in_ok-run.ensures.history c.in_ok-run.ensures.told)
