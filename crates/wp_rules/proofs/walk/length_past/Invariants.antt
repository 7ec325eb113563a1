use Rattle.std.proofs.Common.{◌≡◌, ◌+◌, ◌*◌, ◌≤◌, drop}
use Rattle.wp_model.specs.Warehouse.{IsPoint}
use Rattle.wp_rules.specs.Straight.{past_length}
use Rattle.wp_rules.proofs.walk.length_past.Given as goal

abbrev pub invariant-loop-stop : goal.invariant-loop-stop
invariant-loop-stop l =
    record {
      so_far : l.length + past_length l.layout l.at (drop l.stop-index l.stops) ≡ past_length l.layout l.fn.from l.stops;
      at : IsPoint l.layout l.at;
      small : l.length ≤ 2640000 * l.stop-index;
    }
