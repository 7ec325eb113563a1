use Rattle.std.proofs.Common.{◌≤◌}
use Rattle.wp_planner.proofs.planner.orders_within.Given as goal

abbrev pub invariant-loop-size : goal.invariant-loop-size
invariant-loop-size l = l.kept ≤ l.fn.capacity.most
