use Rattle.std.proofs.Common.{◌∙◌, ◌++◌, ◌+◌, ◌-◌, List, ap}
use Rattle.wp_model.specs.declared.point.Point.{Point}
use Rattle.wp_rules.specs.Straight.{rightward}
use Rattle.wp_rules.proofs.Adding.{one_right}
use Rattle.wp_rules.proofs.straight.add_right.Goals as goal

pub loop-aisle-preserved : goal.loop-aisle-preserved
loop-aisle-preserved c =
    ap (λ (points : List Point). points ++ rightward (c.loop-aisle.aisle + 1) c.args.slot (c.args.to - (c.loop-aisle.aisle + 1))) c.in_ok-push.ensures.items
    ∙ one_right c.args.slot c.loop-aisle.aisle c.args.to c.loop-aisle.points.items
    (c.args.points.now.items ++ rightward c.args.from c.args.slot (c.args.to - c.args.from))
    c.loop-aisle-test.true c.loop-aisle.invariant
