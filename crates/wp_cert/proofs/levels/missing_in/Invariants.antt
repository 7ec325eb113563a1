use Rattle.std.proofs.Common.{ℕ, ◌⊎◌, Contains}
use Rattle.wp_cert.proofs.levels.missing_in.Given as goal

abbrev pub invariant-loop-order : goal.invariant-loop-order
invariant-loop-order l = record {
  within : (order : ℕ) → Contains l.missing order → Contains l.fn.batch order;
  all : (order : ℕ) → Contains l.fn.batch order → Contains l.other order ⊎ Contains l.missing order;
}
