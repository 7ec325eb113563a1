use Rattle.std.proofs.Common.{All, ℕ, ◌<◌, ◌^◌, ◌≤◌, arith, length}
use Rattle.wp_model.proofs.Elements.{All-at}
use Rattle.wp_planner.proofs.ListedBatches.{no_wave_batches, wave_listed_more}
use Rattle.wp_planner.specs.Crews.{GoesSomewhere}
use Rattle.wp_planner.proofs.crew.add_batches.Goals as goal

pub loop-place-init : goal.loop-place-init
loop-place-init c = λ before are. no_wave_batches before c.args.name c.args.plan.now.wave c.args.batches.now are

pub batch_length-length-requires : goal.batch_length-length-requires
batch_length-length-requires c =
    All-at (All (λ (order : ℕ). order < length c.args.plan.now.wave.orders)) c.args.plan.now.planned.batching c.loop-place.place c.at.result.now
    c.requires.places
    c.at.ensures

pub loop-place-preserved : goal.loop-place-preserved
loop-place-preserved c = λ before are.
    let plan = c.args.plan.now in
    let one = c.batch_length-length.result in
    let goes = All-at (GoesSomewhere plan.wave) plan.planned.batching c.loop-place.place c.at.result.now c.requires.some c.at.ensures in
    let added = c.in_ok-add.ensures in
    let most : one ≤ 2 ^ 40 = omega (arith, c.batch_length-length.ensures.small) in
    wave_listed_more before c.args.name plan.wave plan.planned.batching c.loop-place.place c.at.result.now c.loop-place.batches c.add.new.self one
    c.at.ensures (c.loop-place.invariant before are) added.waves added.numbers added.lengths c.batch_length-length.ensures.is
    (goes one c.batch_length-length.ensures.is, most)
