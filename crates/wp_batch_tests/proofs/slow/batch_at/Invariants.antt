use Rattle.std.proofs.Common.{◌<◌, ℕ, Contains, length}
use Rattle.wp_batch_tests.proofs.slow.batch_at.Given as goal

abbrev pub invariant-loop-order : goal.invariant-loop-order
invariant-loop-order l = (order : ℕ) → Contains l.batch order → order < length l.wave.orders
