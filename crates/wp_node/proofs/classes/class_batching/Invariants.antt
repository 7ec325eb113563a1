use Rattle.wp_node.proofs.ClassBatchings.{AreClassesBelow}
use Rattle.wp_node.proofs.classes.class_batching.Given as goal

abbrev pub invariant-loop-order : goal.invariant-loop-order
invariant-loop-order l = AreClassesBelow l.given.pairs.now l.batches.items l.order
