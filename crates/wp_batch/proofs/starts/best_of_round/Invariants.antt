use Rattle.wp_lengths.specs.Batchings.{IsBatching}
use Rattle.wp_batch.proofs.starts.best_of_round.Given as goal

abbrev pub invariant-loop-stage : goal.invariant-loop-stage
invariant-loop-stage l = record {
  best : IsBatching l.instance.wave.now l.instance.capacity l.best.items;
  at : IsBatching l.instance.wave.now l.instance.capacity l.at.items;
}
