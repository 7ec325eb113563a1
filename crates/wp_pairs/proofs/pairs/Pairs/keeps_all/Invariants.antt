use Rattle.std.proofs.Common.{◌<◌, ℕ, Contains}
use Rattle.wp_pairs.specs.Kept.{KeepsOrder}
use Rattle.wp_pairs.proofs.pairs.Pairs.keeps_all.Given as goal

abbrev pub invariant-loop-order : goal.invariant-loop-order
invariant-loop-order l = (order : ℕ) → order < l.order → Contains l.batch order → KeepsOrder l.self l.batch order
