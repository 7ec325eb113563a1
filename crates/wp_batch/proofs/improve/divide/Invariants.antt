use Rattle.wp_batch.specs.Splits.{DividesInto}
use Rattle.wp_batch.proofs.improve.divide.Given as goal

abbrev pub invariant-loop-at : goal.invariant-loop-at
invariant-loop-at l = DividesInto l.fn.union l.halves.left l.halves.right l.halves.rest
