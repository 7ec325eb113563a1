use Rattle.std.proofs.Common.{sym, subst}
use Rattle.wp_grouping.proofs.Shapes.{one_group_tells}
use Rattle.wp_grouping.specs.Shape.{Tells}
use Rattle.wp_waves.specs.Waves.{HasOneGroup}
use Rattle.wp_grouping.proofs.shape.has_one_group.Goals as goal

pub returns-in-Some : goal.returns-in-Some
returns-in-Some c =
    subst (λ b. Tells b (HasOneGroup c.args.wave.now)) (sym c.all_leave_with.ensures)
    (one_group_tells c.in-Some.first.now c.args.wave.now c.in-Some.ensures.value)
