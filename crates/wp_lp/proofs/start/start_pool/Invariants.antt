use Rattle.std.proofs.Common.{take}
use Rattle.wp_lp.proofs.Pools.{IsPoolSoFar}
use Rattle.wp_lp.proofs.start.start_pool.Given as goal

abbrev pub invariant-loop-batch : goal.invariant-loop-batch
invariant-loop-batch l = IsPoolSoFar l.given.wave.now l.given.pairs.now (take l.batch-index l.batches) l.pool
