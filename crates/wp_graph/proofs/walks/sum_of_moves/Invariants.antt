use Rattle.std.proofs.Common.{◌*◌, ◌≤◌, take}
use Rattle.wp_model.specs.Tours.{IsWalk}
use Rattle.wp_model.specs.Limits.{greatest_length}
use Rattle.wp_graph.proofs.walks.sum_of_moves.Given as goal

abbrev pub invariant-loop-i : goal.invariant-loop-i
invariant-loop-i l = record {
  walk : IsWalk l.layout (take l.i l.points) l.total;
  small : l.total ≤ greatest_length * l.i;
}
