use Rattle.std.proofs.Common.{◌≡◌, ◌⊎◌}
use Rattle.wp_lengths.specs.Batchings.{IsBatching}
use Rattle.wp_batch.specs.Joins.{CostLess, TellsCost}
use Rattle.wp_batch.proofs.starts.best_of_walks.Given as goal

abbrev pub invariant-loop : goal.invariant-loop
invariant-loop l = record {
  batching : IsBatching l.instance.wave.now l.instance.capacity l.best.items;
  told : TellsCost l.instance.wave.now l.best.items l.least;
  kept : (l.best.items ≡ l.batches) ⊎ CostLess l.instance.wave.now l.batches l.best.items;
}
