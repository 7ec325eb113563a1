use Rattle.std.proofs.Common.{◌∙◌, sym, subst, arith, List}
use Rattle.std.proofs.lemmas.Option.{same_Some}
use Rattle.wp_grouping.proofs.Shapes.{follows_told}
use Rattle.wp_grouping.specs.Shape.{MayFollow, Tells}
use Rattle.wp_waves.proofs.KeptWaves.{kept_at}
use Rattle.wp_waves.specs.Filling.{waves_kept}
use Rattle.wp_waves.specs.declared.open_orders.OpenOrder.{OpenOrder}
use Rattle.wp_grouping.proofs.shape.follows_all.Goals as goal

pub returns-in-Some : goal.returns-in-Some
returns-in-Some c =
    let waves = c.args.waves.now in
    let wave = c.args.wave.now in
    let place = c.in-Some.place in
    let last = c.in-Some.ensures.some in
    let there = kept_at waves place c.index-waves-place.result (omega (arith, last.before, c.requires.within)) c.index-waves-place.is in
    let same = same_Some last.earlier c.index-waves-place.result.items (sym last.there ∙ there) in
    follows_told c.may_follow.result c.args.most (waves_kept waves) c.args.end place wave c.requires.before last
    (subst (λ (w : List OpenOrder). Tells c.may_follow.result (MayFollow c.args.most w wave)) (c.deref.ensures.value ∙ sym same) c.may_follow.ensures)
