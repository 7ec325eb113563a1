use Rattle.std.proofs.Common.{◌<◌, ◌≤◌, IfSome}
use Rattle.wp_model.specs.Warehouse.{back_end}
use Rattle.wp_graph.specs.PickSets.{AreSlots}
use Rattle.wp_walk.specs.ReachedPlaces.{IsReached, first_required}
use Rattle.wp_walk.proofs.turns.reach_all.Given as goal

abbrev pub invariant-loop-place : goal.invariant-loop-place
invariant-loop-place l = record {
  value : IsReached l.layout (first_required l.layout l.picks.points l.aisle l.place) l.reached;
  slots : 0 < l.place → AreSlots l.layout l.picks.points;
  within : IfSome l.reached (λ r. (r.first ≤ back_end l.layout) × (r.last ≤ back_end l.layout) × (r.near ≤ back_end l.layout) × (r.far ≤ back_end l.layout));
}
