use Rattle.std.proofs.Common.{◌<◌, ℕ, Contains}
use Rattle.wp_samples.proofs.batches.batch_below.Given as goal

abbrev pub invariant-loop-order : goal.invariant-loop-order
invariant-loop-order l = (order : ℕ) → Contains l.batch order → order < l.below
