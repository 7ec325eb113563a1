use Rattle.std.proofs.Common.{◌≡◌, ◌*◌, ◌<◌, ◌≤◌, Contains, IfSome, None, filter, fold, map}
use Rattle.std.specs.List.{range_with_len}
use Rattle.wp_model.specs.declared.point.Point.{Point}
use Rattle.wp_model.specs.Warehouse.{IsSlot}
use Rattle.wp_graph.specs.Required.{distance, has_point}
use Rattle.wp_graph.specs.Stretches.{front_distances, reach_to}
use Rattle.wp_graph.proofs.ways.reach_slots.Given as goal

abbrev pub invariant-loop-index : goal.invariant-loop-index
invariant-loop-index l = record {
  value : l.stretch ≡ fold reach_to (fold reach_to None (front_distances l.layout l.aisle))
      (map (distance l.layout) (filter (has_point l.picks.points l.aisle) (range_with_len 0 (64 * l.index))));
  slots : 0 < l.index → (p : Point) → Contains l.picks.points p → IsSlot l.layout p;
  last : IfSome l.stretch (λ s. s.last ≤ 2000000);
}
