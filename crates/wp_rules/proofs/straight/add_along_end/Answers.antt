use Rattle.std.proofs.Common.{◌∙◌, ◌++◌, List, ap, arith, sym}
use Rattle.wp_model.specs.declared.point.Point.{Point}
use Rattle.wp_rules.proofs.Lines.{left_on, right_on}
use Rattle.wp_rules.proofs.straight.add_along_end.Goals as goal

pub returns-then-from-to : goal.returns-then-from-to
returns-then-from-to c =
    c.in_ok-add_right.ensures ∙ ap (λ (points : List Point). c.args.points.now.items ++ points)
    (sym (right_on c.args.from.slot c.args.from.aisle c.args.to c.if-from-to.true))

pub returns : goal.returns
returns c =
    c.in_ok-add_left.ensures
    ∙ ap (λ (points : List Point). c.args.points.now.items ++ points)
    (sym (left_on c.args.from.slot c.args.from.aisle c.args.to (omega (arith, c.if-from-to.false))))
