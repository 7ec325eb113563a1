use Rattle.std.proofs.Common.{◌^◌, arith, lit≤}
use Rattle.wp_model.specs.Warehouse.{spacing_after}
use Rattle.wp_graph.proofs.AisleOffsets.{spacing_small}
use Rattle.wp_fast.proofs.PastAisles.{least_last, least_on}
use Rattle.wp_fast.proofs.SmallPassages.{by_crossings_small, by_ways_small, least_up_to, up_to_below}
use Rattle.wp_tour_tests.proofs.fast.past_aisle.Goals as goal

pub returns-then-aisle-aisles-clause-least : goal.returns-then-aisle-aisles-clause-least
returns-then-aisle-aisles-clause-least c =
    least_on _ _ _ _ _ _ (omega (arith, c.aisles.ensures.value)) (rw c.aisle_ways.ensures.value at c.of_aisle-through.ensures)
    (rw c.spacing_after.ensures.value at c.of_crossing.ensures) c.compose.ensures

pub returns-else-aisle-aisles-clause-least : goal.returns-else-aisle-aisles-clause-least
returns-else-aisle-aisles-clause-least c =
    least_last _ _ _ _ (omega (arith, c.aisles.ensures.value)) (rw c.aisle_ways.ensures.value at c.of_aisle-through.ensures)

pub compose-requires-clause-first : goal.compose-requires-clause-first
compose-requires-clause-first c =
    up_to_below 4020000 (2 ^ 62) _ (lit≤ tt) (least_up_to _ _ 4020000 (rw c.aisle_ways.ensures.value at c.of_aisle-through.ensures)
    (by_ways_small c.args.layout.now c.args.picks.now.points c.args.aisle c.aisles.ensures.valid))

pub compose-requires-clause-next : goal.compose-requires-clause-next
compose-requires-clause-next c =
    up_to_below 40000 (2 ^ 62) _ (lit≤ tt) (least_up_to _ _ 40000 (rw c.spacing_after.ensures.value at c.of_crossing.ensures)
    (by_crossings_small (spacing_after c.args.layout.now c.args.aisle) (spacing_small c.args.layout.now c.aisles.ensures.valid c.args.aisle)))
