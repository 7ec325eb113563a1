use Rattle.std.proofs.Common.{◌≡◌, ◌∙◌, sym, ap, subst, true, false, List, Vec, length}
use Rattle.std.specs.declared.alloc.Global.{Global}
use Rattle.wp_grouping.proofs.Shapes.{are_below}
use Rattle.wp_grouping.specs.Shape.{AreRight}
use Rattle.wp_waves.specs.Filling.{waves_kept}
use Rattle.wp_waves.specs.declared.open_orders.OpenOrder.{OpenOrder}
use Rattle.wp_grouping.proofs.arranging.proposed.Goals as goal

pub returns-then-not-are_small-clause-none : goal.returns-then-not-are_small-clause-none
returns-then-not-are_small-clause-none c = λ small are.
    let both : false ≡ true = c.if-not-are_small.ensures ∙ are_below (length c.args.served.now) c.args.keys.now small in
    cc both

pub returns-then-are_right-clause-right : goal.returns-then-are_right-clause-right
returns-then-are_right-clause-right c =
    subst (λ (ws : List (Vec OpenOrder Global)). AreRight c.args.most (waves_kept ws)) c.as_slice.ensures.value c.if-are_right.ensures

pub returns-else-are_right-clause-none : goal.returns-else-are_right-clause-none
returns-else-are_right-clause-none c = λ small are.
    c.if-are_right.ensures (subst (AreRight c.args.most) (sym c.in_ok-waves.ensures ∙ ap waves_kept (sym c.as_slice.ensures.value)) are)
