use Rattle.std.proofs.Common.{◌++◌, ◌∙◌, None, ap, fold, sym}
use Rattle.std.proofs.lemmas.List.Sums.{fold-append}
use Rattle.wp_graph.specs.Stretches.{back_distances, front_distances, reach_to, slot_distances}
use Rattle.wp_graph.proofs.RequiredPlaces.{required_parts}
use Rattle.wp_graph.proofs.ways.reach_aisle.Goals as goal

pub returns-clause-value : goal.returns-clause-value
returns-clause-value c =
    let layout = c.args.layout.now in
    let points = c.args.picks.now.points in
    let front = front_distances layout c.args.aisle ++ slot_distances layout points c.args.aisle in
    c.reach_back.ensures.value
    ∙ ap (λ before. fold reach_to before (back_distances layout c.args.aisle)) c.reach_slots.ensures.value
    ∙ sym (fold-append reach_to None front (back_distances layout c.args.aisle))
    ∙ ap (fold reach_to None) (sym (required_parts layout points c.args.aisle c.reach_slots.ensures.slots))
