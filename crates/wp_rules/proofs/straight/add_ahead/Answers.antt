use Rattle.std.proofs.Common.{◌∙◌, ◌++◌, ◌+◌, ◌-◌, List, ap}
use Rattle.wp_model.specs.declared.point.Point.{Point}
use Rattle.wp_classes.specs.Paths.{ahead}
use Rattle.wp_rules.proofs.Adding.{one_ahead}
use Rattle.wp_rules.proofs.straight.add_ahead.Goals as goal

pub loop-slot-preserved : goal.loop-slot-preserved
loop-slot-preserved c =
    ap (λ (points : List Point). points ++ ahead c.args.aisle (c.loop-slot.slot + 1) (c.args.to - (c.loop-slot.slot + 1))) c.in_ok-push.ensures.items
    ∙ one_ahead c.args.aisle c.loop-slot.slot c.args.to c.loop-slot.points.items
    (c.args.points.now.items ++ ahead c.args.aisle c.args.from (c.args.to - c.args.from))
    c.loop-slot-test.true c.loop-slot.invariant
