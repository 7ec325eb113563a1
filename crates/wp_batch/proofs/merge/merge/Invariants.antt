use Rattle.std.proofs.Common.{◌≤◌, vec_len}
use Rattle.wp_lengths.specs.Batchings.{IsBatching, IsListedByLeast}
use Rattle.wp_batch.specs.Joins.{CostNoMore}
use Rattle.wp_batch.specs.Savings.{AreMerged}
use Rattle.wp_batch.proofs.merge.merge.Given as goal

abbrev pub invariant-loop-join : goal.invariant-loop-join
invariant-loop-join l = record {
  batching : IsBatching l.instance.wave.now l.instance.capacity l.batches.items;
  listed : IsListedByLeast l.batches.items;
  fewer : vec_len l.batches ≤ vec_len l.initial.batches;
  merged : AreMerged l.instance.wave.now l.instance.capacity l.initial.batches.items l.batches.items;
  no_dearer : CostNoMore l.instance.wave.now l.initial.batches.items l.batches.items;
}

abbrev pub decreases-loop-join : goal.decreases-loop-join
decreases-loop-join l = vec_len l.batches
