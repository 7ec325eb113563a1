use Rattle.std.proofs.Common.{◌∙◌, sym, subst}
use Rattle.wp_grouping.proofs.Shapes.{between_tells}
use Rattle.wp_grouping.specs.Shape.{Tells}
use Rattle.wp_model.proofs.NameEq.{name_eq_is}
use Rattle.wp_waves.specs.Waves.{AreOfOneGroup}
use Rattle.wp_grouping.proofs.shape.are_of_one_group.Goals as goal

pub returns-in-Some-Some : goal.returns-in-Some-Some
returns-in-Some-Some c =
    let one = c.in-Some-Some.one.now in
    let other = c.in-Some-Some.other.now in
    subst (λ b. Tells b (AreOfOneGroup c.args.one.now c.args.other.now)) (sym (c.eq.ensures ∙ name_eq_is one.group other.group))
    (between_tells one other c.args.one.now c.args.other.now c.in-Some-Some.ensures.value c.in-Some-Some.ensures'.value)
