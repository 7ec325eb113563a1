use Rattle.std.proofs.Common.{◌≡◌, ◌≤◌, filter}
use Rattle.std.specs.List.{range_with_len}
use Rattle.wp_graph.specs.PickSets.{AreSlots}
use Rattle.wp_rules.specs.Rules.{has_pick}
use Rattle.wp_rules.proofs.aisles.picked_aisles.Given as goal

abbrev pub invariant-loop-before : goal.invariant-loop-before
invariant-loop-before l =
    record {
      picked : l.picked ≡ filter (has_pick l.picks.points) (range_with_len 1 l.before);
      slots : 1 ≤ l.before → AreSlots l.layout l.picks.points;
    }
