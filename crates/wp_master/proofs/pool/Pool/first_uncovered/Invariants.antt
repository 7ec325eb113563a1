use Rattle.wp_master.specs.Pools.{AreCovered}
use Rattle.wp_master.proofs.pool.Pool.first_uncovered.Given as goal

abbrev pub invariant-loop-order : goal.invariant-loop-order
invariant-loop-order l = AreCovered l.self l.order
