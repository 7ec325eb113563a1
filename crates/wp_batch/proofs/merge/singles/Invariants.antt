use Rattle.wp_batch.proofs.Singles.{AreSingles}
use Rattle.wp_batch.proofs.merge.singles.Given as goal

abbrev pub invariant-loop-order : goal.invariant-loop-order
invariant-loop-order l = AreSingles l.batches.items l.order
