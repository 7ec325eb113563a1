use Rattle.std.proofs.Common.{◌∙◌, ◌++◌, List, ap, arith, sym}
use Rattle.wp_model.specs.declared.point.Point.{Point}
use Rattle.wp_rules.proofs.Lines.{straight_in, straight_on}
use Rattle.wp_rules.proofs.straight.add_straight.Goals as goal

pub returns-then-from-to : goal.returns-then-from-to
returns-then-from-to c =
    c.in_ok-add_in_aisle.ensures
    ∙ ap (λ (points : List Point). c.args.points.now.items ++ points) (sym (straight_in c.args.from c.args.to c.if-from-to.true))

pub returns : goal.returns
returns c =
    c.in_ok-add_along_end.ensures
    ∙ ap (λ (points : List Point). c.args.points.now.items ++ points)
    (sym (straight_on c.args.from c.args.to (λ same. absurd (omega (arith, same, c.if-from-to.false)))))
