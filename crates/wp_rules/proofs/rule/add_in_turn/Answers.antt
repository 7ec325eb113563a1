use Rattle.std.proofs.Common.{◌∙◌, ◌++◌, List, ap, arith, sym}
use Rattle.std.specs.List.{flat_map}
use Rattle.wp_model.specs.declared.point.Point.{Point}
use Rattle.wp_rules.specs.Rules.{return_stops}
use Rattle.wp_rules.proofs.Adding.{all_served, in_turn_is}
use Rattle.wp_rules.proofs.rule.add_in_turn.Goals as goal

pub returns-clause-value : goal.returns-clause-value
returns-clause-value c =
    let serve = return_stops c.args.layout.now c.args.picks.now.points in
    let aisles = c.args.aisles.now in
    all_served serve aisles c.loop-aisle.aisle-index c.loop-aisle.stops (c.args.stops.now ++ flat_map serve aisles) (omega (arith, c.loop-aisle-test.false))
    c.loop-aisle.invariant.added
    ∙ ap (λ (stops : List Point). c.args.stops.now ++ stops) (sym (in_turn_is c.args.layout.now c.args.picks.now.points aisles))
