use Rattle.std.proofs.Common.{◌∙◌, ap}
use Rattle.wp_model.specs.Warehouse.End.{at_front, at_back}
use Rattle.wp_graph.specs.AisleLengths.{site_ways, ways_with}
use Rattle.wp_graph.specs.Required.{required_distances}
use Rattle.wp_graph.specs.Sites.{has_depot, site_of}
use Rattle.wp_graph.specs.Stretches.{ways_by_stretch}
use Rattle.wp_graph.proofs.RequiredPlaces.{required_ascending}
use Rattle.wp_graph.proofs.Stretches.{ways_reached}
use Rattle.wp_graph.proofs.ways.aisle_ways.Goals as goal

pub returns-clause-value : goal.returns-clause-value
unfolding site_ways
returns-clause-value c =
    let layout = c.args.layout.now in
    let depot = has_depot (site_of layout) c.args.aisle in
    let distances = required_distances layout c.args.picks.now.points c.args.aisle in
    let summed = ways_reached depot c.length_of_aisle.result distances
    (required_ascending layout c.args.picks.now.points c.args.aisle c.has_depot_in_front.ensures.valid) in
    c.ways_by.ensures
    ∙ ap (λ b. ways_by_stretch b c.has_depot_behind.result c.length_of_aisle.result c.reach_aisle.result) c.has_depot_in_front.ensures.value
    ∙ ap (λ b. ways_by_stretch (depot at_front) b c.length_of_aisle.result c.reach_aisle.result) c.has_depot_behind.ensures.value
    ∙ ap (ways_by_stretch (depot at_front) (depot at_back) c.length_of_aisle.result) c.reach_aisle.ensures.value
    ∙ summed
    ∙ ap (λ whole. ways_with depot whole distances) c.length_of_aisle.ensures.value
