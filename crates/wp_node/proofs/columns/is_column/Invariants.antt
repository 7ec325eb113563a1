use Rattle.std.proofs.Common.{ℕ, ◌<◌, ◌≤◌, Contains}
use Rattle.wp_node.proofs.columns.is_column.Given as goal

abbrev pub invariant-loop-order : goal.invariant-loop-order
invariant-loop-order l = (order : ℕ) → l.orders ≤ order → order < l.order → Contains l.column.batch order → ⊥
