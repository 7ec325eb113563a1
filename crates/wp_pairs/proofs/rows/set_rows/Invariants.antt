use Rattle.std.proofs.Common.{◌≡◌, ◌<◌, ◌≤◌, ℕ, Contains}
use Rattle.wp_pairs.specs.Kept.{listed_for}
use Rattle.wp_pairs.proofs.rows.set_rows.Given as goal

abbrev pub invariant-loop-order : goal.invariant-loop-order
invariant-loop-order l = record {
  there : (order : ℕ) → order < l.order → Contains l.batch order → listed_for l.rows order ≡ l.orders;
  elsewhere : (order : ℕ) → order < l.order → (Contains l.batch order → ⊥) → listed_for l.rows order ≡ listed_for l.fn.rows order;
  above : (order : ℕ) → l.order ≤ order → listed_for l.rows order ≡ listed_for l.fn.rows order;
}
