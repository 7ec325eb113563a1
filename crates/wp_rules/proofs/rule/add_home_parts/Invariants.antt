use Rattle.std.proofs.Common.{◌≡◌, ◌+◌, ◌-◌, ◌*◌, ◌≤◌, ◌++◌, length, reverse}
use Rattle.std.specs.List.{flat_map, range_with_len}
use Rattle.wp_rules.specs.Rules.{home_part}
use Rattle.wp_rules.proofs.rule.add_home_parts.Given as goal

abbrev pub invariant-loop-back : goal.invariant-loop-back
invariant-loop-back l =
    record {
      added : l.stops ++ flat_map (home_part l.layout l.picks.points) (reverse (range_with_len (l.first + 1) (l.last - l.back)))
          ≡ l.fn.stops ++ flat_map (home_part l.layout l.picks.points) (reverse (range_with_len (l.first + 1) (l.last - l.first - 1)));
      most : length l.stops + 3 * (l.last - l.back) ≤ length l.fn.stops + 3 * (l.last - l.first - 1);
    }
