use Rattle.std.proofs.Common.{◌∙◌, ◌++◌, List, ap, arith, sym}
use Rattle.wp_model.specs.declared.point.Point.{Point}
use Rattle.wp_rules.proofs.Lines.{down_in, up_in}
use Rattle.wp_rules.proofs.straight.add_in_aisle.Goals as goal

pub returns-then-from-to : goal.returns-then-from-to
returns-then-from-to c =
    c.in_ok-add_ahead.ensures ∙ ap (λ (points : List Point). c.args.points.now.items ++ points)
    (sym (up_in c.args.from.aisle c.args.from.slot c.args.to c.if-from-to.true))

pub returns : goal.returns
returns c =
    c.in_ok-add_behind.ensures
    ∙ ap (λ (points : List Point). c.args.points.now.items ++ points)
    (sym (down_in c.args.from.aisle c.args.from.slot c.args.to (omega (arith, c.if-from-to.false))))
