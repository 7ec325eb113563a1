use Rattle.std.proofs.Common.{◌∙◌, ◌++◌, ◌+◌, List, ap, arith, drop, get_or}
use Rattle.std.proofs.lemmas.List.{at_drop_all, at_drop_more}
use Rattle.wp_model.specs.declared.point.Point.{Point}
use Rattle.wp_rules.specs.Straight.{past, straight}
use Rattle.wp_rules.proofs.Adding.{all_added, more_added, past_none, past_step}
use Rattle.wp_rules.proofs.walk.add_past.Goals as goal

pub loop-stop-preserved : goal.loop-stop-preserved
loop-stop-preserved c =
    let stops = c.args.stops.now in
    let i = c.loop-stop.stop-index in
    let none : Point = record { aisle = 0; slot = 0 } in
    let at : Point = c.loop-stop.at in
    let next = get_or stops i none in
    let rest = drop (i + 1) stops in
    ap (λ (points : List Point). points ++ past next rest) c.in_ok-add_straight.ensures
    ∙ more_added c.loop-stop.points.items (straight at next) (past next rest) (past at (drop i stops)) (c.args.points.now.items ++ past c.args.from stops)
    (at_drop_more (past at) stops i none c.loop-stop-test.true ∙ past_step at next rest) c.loop-stop.invariant

pub returns : goal.returns
returns c =
    let stops = c.args.stops.now in
    let at : Point = c.loop-stop.at in
    all_added c.loop-stop.points.items (past at (drop c.loop-stop.stop-index stops)) (c.args.points.now.items ++ past c.args.from stops)
    (at_drop_all (past at) stops c.loop-stop.stop-index (omega (arith, c.loop-stop-test.false)) ∙ past_none at) c.loop-stop.invariant
