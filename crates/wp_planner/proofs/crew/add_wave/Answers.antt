use Rattle.std.proofs.Common.{◌≡◌, ◌∙◌, All, subst, sym}
use Rattle.std.proofs.lemmas.Option.{same_Some}
use Rattle.wp_planner.proofs.BatchLengths.{each_goes}
use Rattle.wp_planner.specs.Crews.{GoesSomewhere}
use Rattle.wp_planner.specs.declared.planner.WavePlan.{WavePlan}
use Rattle.wp_planner.proofs.crew.add_wave.Goals as goal

pub add_batches-requires-clause-some : goal.add_batches-requires-clause-some
add_batches-requires-clause-some c =
    let is = c.requires.3 in
    let same : is.plan ≡ c.plan_sent.result.now = same_Some is.plan c.plan_sent.result.now (sym is.there ∙ c.plan_sent.ensures) in
    subst (λ (plan : WavePlan). All (GoesSomewhere plan.wave) plan.planned.batching) same
    (each_goes c.requires.0 c.requires.1 c.args.one.now.wave c.requires.2 is.plan is.released is.good)
