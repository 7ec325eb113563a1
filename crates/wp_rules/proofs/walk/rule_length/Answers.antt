use Rattle.std.proofs.Common.{◌∙◌, List, All, ap, subst, sym}
use Rattle.wp_model.specs.declared.point.Point.{Point}
use Rattle.wp_model.specs.Tours.{IsTour}
use Rattle.wp_model.specs.Warehouse.{IsPoint, depot_point}
use Rattle.wp_rules.specs.Rules.{walk_of_rule}
use Rattle.wp_rules.specs.Straight.{past_length}
use Rattle.wp_rules.proofs.RuleTours.{rule_points, rule_tour}
use Rattle.wp_rules.proofs.walk.rule_length.Goals as goal

pub length_past-requires-clause-points : goal.length_past-requires-clause-points
length_past-requires-clause-points c =
    subst (λ (stops : List Point). All (IsPoint c.args.layout.now) stops) (sym (c.points.ensures ∙ c.stops_of-stops.ensures.value))
    (rule_points c.args.layout.now c.args.picks.now.points c.args.rule c.stops_of-stops.ensures.slots)

pub returns : goal.returns
returns c =
    let layout = c.args.layout.now in
    let picks = c.args.picks.now.points in
    let length = c.length_past.ensures ∙ ap (λ (from : Point). past_length layout from c.points.result.now) c.depot_point.ensures.value
    ∙ ap (λ (stops : List Point). past_length layout (depot_point layout) stops) (c.points.ensures ∙ c.stops_of-stops.ensures.value) in
    subst (λ n. IsTour layout picks (walk_of_rule layout picks c.args.rule) n) (sym length)
    (rule_tour layout picks c.args.rule c.stops_of-stops.ensures.slots)
