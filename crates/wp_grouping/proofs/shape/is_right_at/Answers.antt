use Rattle.std.proofs.Common.{◌≡◌, ◌∙◌, sym, subst, arith, List}
use Rattle.std.proofs.lemmas.Option.{same_Some}
use Rattle.wp_grouping.proofs.Shapes.{right_told}
use Rattle.wp_grouping.specs.Shape.{IsRightAt, Tells}
use Rattle.wp_waves.proofs.KeptWaves.{kept_at}
use Rattle.wp_waves.specs.Filling.{waves_kept}
use Rattle.wp_waves.specs.declared.open_orders.OpenOrder.{OpenOrder}
use Rattle.wp_grouping.proofs.shape.is_right_at.Goals as goal

pub returns : goal.returns
returns c = λ wave there.
    let waves = c.args.waves.now in
    let now = c.as_slice-wave.result.now in
    let kept = kept_at waves c.args.place c.index-waves-place.result c.requires.within c.index-waves-place.is in
    let path : now ≡ wave = c.as_slice-wave.ensures.value ∙ same_Some c.index-waves-place.result.items wave (sym kept ∙ there) in
    subst (λ (w : List OpenOrder). Tells c.follows_all.result (IsRightAt c.args.most (waves_kept waves) c.args.place w)) path
    (right_told c.follows_all.result c.args.most (waves_kept waves) c.args.place now (omega (arith, c.if-wave-most.false))
    c.if-not-has_one_group.ensures c.follows_all.ensures)
