use Rattle.wp_batch.specs.Splits.{IsSplit}
use Rattle.wp_batch.proofs.moves.best_giving.Given as goal

abbrev pub invariant-loop : goal.invariant-loop
invariant-loop l = IsSplit l.pair.instance.wave.now l.pair.instance.capacity l.pair.union l.best
