use Rattle.std.proofs.Common.{◌≡◌, ◌+◌, ◌*◌, ◌≤◌, ◌++◌, drop, length}
use Rattle.std.specs.List.{flat_map}
use Rattle.wp_rules.specs.Rules.{return_stops}
use Rattle.wp_rules.proofs.rule.add_in_turn.Given as goal

abbrev pub invariant-loop-aisle : goal.invariant-loop-aisle
invariant-loop-aisle l =
    record {
      added : l.stops ++ flat_map (return_stops l.layout l.picks.points) (drop l.aisle-index l.aisles)
          ≡ l.fn.stops ++ flat_map (return_stops l.layout l.picks.points) l.aisles;
      most : length l.stops ≤ length l.fn.stops + 3 * l.aisle-index;
    }
