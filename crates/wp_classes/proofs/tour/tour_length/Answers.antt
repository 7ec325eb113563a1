use Rattle.std.proofs.Common.{◌-◌, arith}
use Rattle.wp_classes.specs.Choices.{block_of}
use Rattle.wp_classes.specs.Onward.{AreOnward}
use Rattle.wp_classes.proofs.Routes.{IsLeastFirst, at_first, least_first, least_route, some_way_on}
use Rattle.wp_classes.proofs.Shortest.{shortest}
use Rattle.wp_classes.proofs.Small.{first_small, lengths_within, ways_within}
use Rattle.wp_classes.proofs.tour.tour_length.Goals as goal
use Rattle.wp_classes.proofs.tour.tour_length.Goals.{After-aisle_ways, After-least_length_by_way}

on_from_first : (c : After-aisle_ways) → AreOnward (block_of c.args.layout.now c.args.picks.now.points) (c.args.layout.now.aisles - 1) 1 c.loop-done.onward
on_from_first c =
    let valid = c.aisles-done-end.ensures.valid in
    at_first _ c.args.layout.now.aisles c.loop-done.done _ valid.aisles.0 (omega arith) (omega (arith, valid.aisles)) c.loop-done.invariant

least : (c : After-least_length_by_way) → IsLeastFirst (block_of c.args.layout.now c.args.picks.now.points)
    (c.args.layout.now.aisles - 1) c.least_length_by_way.result
least c =
    let valid = c.aisles-done-end.ensures.valid in
    let on = at_first _ c.args.layout.now.aisles c.loop-done.done _ valid.aisles.0 (omega arith) (omega (arith, valid.aisles)) c.loop-done.invariant in
    least_first _ _ _ _ _ on c.aisle_ways.ensures.value c.least_length_by_way.ensures

pub least_length_by_way-requires-clause-ways : goal.least_length_by_way-requires-clause-ways
least_length_by_way-requires-clause-ways c = λ way. ways_within _ _ _ _ c.aisles-done-end.ensures.valid c.aisle_ways.ensures.value way

pub least_length_by_way-requires-clause-after : goal.least_length_by_way-requires-clause-after
least_length_by_way-requires-clause-after c = λ class.
    lengths_within _ _ _ _ _ c.aisles-done-end.ensures.valid (omega (arith, c.aisles-done-end.ensures.valid.aisles))
    (on_from_first (goal.at.least_length_by_way-requires-clause-after c).After-aisle_ways) class

pub unwrap-requires : goal.unwrap-requires
unwrap-requires c = some_way_on _ _ _ (least (goal.at.unwrap-requires c).After-least_length_by_way)

pub returns-clause-least : goal.returns-clause-least
returns-clause-least c = least_route _ _ _ (rw c.unwrap.ensures at (least (goal.at.returns-clause-least c).After-least_length_by_way))

pub returns-clause-shortest : goal.returns-clause-shortest
returns-clause-shortest c =
    let route = least_route _ _ _ (rw c.unwrap.ensures at (least (goal.at.returns-clause-shortest c).After-least_length_by_way)) in
    shortest _ _ _ c.aisle_ways.ensures.slots route

pub returns-clause-small : goal.returns-clause-small
returns-clause-small c =
    first_small _ _ _ c.aisles-done-end.ensures.valid (rw c.unwrap.ensures at (least (goal.at.returns-clause-small c).After-least_length_by_way))
