use Rattle.std.proofs.Common.{◌≡◌, ◌+◌, ◌-◌, ◌*◌, ◌≤◌, ◌++◌, length}
use Rattle.std.specs.List.{flat_map, range_with_len}
use Rattle.wp_rules.specs.Rules.{far_part}
use Rattle.wp_rules.proofs.rule.add_far_parts.Given as goal

abbrev pub invariant-loop-aisle : goal.invariant-loop-aisle
invariant-loop-aisle l =
    record {
      added : l.stops ++ flat_map (far_part l.layout l.picks.points) (range_with_len l.aisle (l.last - l.aisle))
          ≡ l.fn.stops ++ flat_map (far_part l.layout l.picks.points) (range_with_len (l.first + 1) (l.last - l.first - 1));
      most : length l.stops + 3 * (l.last - l.aisle) ≤ length l.fn.stops + 3 * (l.last - l.first - 1);
    }
