use Rattle.wp_batch.specs.Joins.{IsBestBelow}
use Rattle.wp_batch.proofs.merge.best_join.Given as goal

abbrev pub invariant-loop-right : goal.invariant-loop-right
invariant-loop-right l = IsBestBelow l.instance.wave.now l.instance.capacity l.batches l.right l.best
