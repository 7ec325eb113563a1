use Rattle.wp_batch.specs.Joins.{IsBestWith}
use Rattle.wp_batch.proofs.merge.best_with.Given as goal

abbrev pub invariant-loop-left : goal.invariant-loop-left
invariant-loop-left l = IsBestWith l.instance.wave.now l.instance.capacity l.batches l.left l.right l.best
