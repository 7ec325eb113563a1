use Rattle.std.proofs.Common.{◌≡◌, length}
use Rattle.wp_lengths.specs.Batchings.{IsBatching}
use Rattle.wp_batch.specs.Joins.{CostNoMore}
use Rattle.wp_batch.proofs.improve.improve_with.Given as goal

abbrev pub invariant-loop-left : goal.invariant-loop-left
invariant-loop-left l = record {
  batching : IsBatching l.instance.wave.now l.instance.capacity l.batches.items;
  count : length l.batches.items ≡ length l.initial.batches.items;
  no_dearer : CostNoMore l.instance.wave.now l.initial.batches.items l.batches.items;
}
