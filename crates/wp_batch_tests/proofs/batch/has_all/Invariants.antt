use Rattle.std.proofs.Common.{ℕ, ◌<◌, Contains}
use Rattle.wp_batch_tests.proofs.batch.has_all.Given as goal

abbrev pub invariant-loop-order : goal.invariant-loop-order
invariant-loop-order l = (order : ℕ) → order < l.order → Contains l.batch order
