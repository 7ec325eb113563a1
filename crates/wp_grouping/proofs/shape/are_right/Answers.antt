use Rattle.std.proofs.Common.{arith}
use Rattle.wp_grouping.proofs.Shapes.{all_right, one_more_right}
use Rattle.wp_model.proofs.Elements.{within_some}
use Rattle.wp_waves.proofs.KeptWaves.{kept_length}
use Rattle.wp_waves.specs.Filling.{waves_kept}
use Rattle.wp_grouping.proofs.shape.are_right.Goals as goal

pub returns-then-not-is_right_at : goal.returns-then-not-is_right_at
returns-then-not-is_right_at c = λ are.
    let waves = c.args.waves.now in
    let place = c.loop-place.place in
    let found = within_some (waves_kept waves) place (omega (arith, kept_length waves)) in
    c.if-not-is_right_at.ensures found.0 found.1 (are place found.0 found.1)

pub loop-place-preserved : goal.loop-place-preserved
loop-place-preserved c =
    one_more_right c.args.most (waves_kept c.args.waves.now) c.loop-place.place c.loop-place.invariant c.if-not-is_right_at.ensures

pub returns : goal.returns
returns c =
    let waves = c.args.waves.now in
    all_right c.args.most (waves_kept waves) c.loop-place.place (omega (arith, kept_length waves)) c.loop-place.invariant
