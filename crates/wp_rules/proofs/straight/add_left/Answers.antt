use Rattle.std.proofs.Common.{◌∙◌, ◌++◌, ◌+◌, ◌-◌, List, ap}
use Rattle.wp_model.specs.declared.point.Point.{Point}
use Rattle.wp_rules.specs.Straight.{leftward}
use Rattle.wp_rules.proofs.Adding.{one_left}
use Rattle.wp_rules.proofs.straight.add_left.Goals as goal

pub loop-back-preserved : goal.loop-back-preserved
loop-back-preserved c =
    ap (λ (points : List Point). points ++ leftward c.args.to c.args.slot (c.args.from - (c.loop-back.back + 1))) c.in_ok-push.ensures.items
    ∙ one_left c.args.slot c.loop-back.back c.args.from c.args.to c.loop-back.points.items
    (c.args.points.now.items ++ leftward c.args.to c.args.slot (c.args.from - c.args.to))
    c.loop-back-test.true c.loop-back.invariant
