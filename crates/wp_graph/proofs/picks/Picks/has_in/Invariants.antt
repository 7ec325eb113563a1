use Rattle.std.proofs.Common.{◌≡◌, ℕ, ◌*◌, ◌<◌, false}
use Rattle.wp_graph.specs.PickSets.{AreSlots}
use Rattle.wp_graph.specs.Required.{has_point}
use Rattle.wp_graph.proofs.picks.Picks.has_in.Given as goal

abbrev pub invariant-loop-index : goal.invariant-loop-index
invariant-loop-index l = record {
  none : (place : ℕ) → place < 64 * l.index → has_point l.self.points l.aisle place ≡ false;
  slots : 0 < l.index → AreSlots l.self.layout l.self.points;
}
