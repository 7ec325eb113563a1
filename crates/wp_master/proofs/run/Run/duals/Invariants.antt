use Rattle.std.proofs.Common.{◌≡◌, ◌<◌, ℕ, length}
use Rattle.wp_master.specs.Pairs.{number_at}
use Rattle.wp_master.specs.Pivots.{order_place}
use Rattle.wp_master.specs.Runs.{IsDual}
use Rattle.wp_master.proofs.run.Run.duals.Given as goal

abbrev pub invariant-loop-order : goal.invariant-loop-order
invariant-loop-order l = record {
  count : length l.duals.items ≡ l.order;
  each : (order : ℕ) → order < length l.duals.items
      → IsDual l.self.table l.self.basis.items (order_place l.pool order) (number_at l.duals.items order);
}
