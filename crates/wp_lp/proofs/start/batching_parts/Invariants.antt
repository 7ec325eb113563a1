use Rattle.std.proofs.Common.{◌≡◌, ◌<◌, ◌^◌, All, map, take}
use Rattle.wp_lp.specs.Parts.{IsWeightedBatch}
use Rattle.wp_lp.specs.declared.part.WeightedBatch.{WeightedBatch}
use Rattle.wp_lp.proofs.start.batching_parts.Given as goal

abbrev pub invariant-loop-batch : goal.invariant-loop-batch
invariant-loop-batch l = record {
  are : map (λ (part : WeightedBatch). part.batch) l.parts.items ≡ take l.batch-index l.batches;
  weights : All (λ (part : WeightedBatch). part.weight ≡ l.weight) l.parts.items;
  small : All (λ (part : WeightedBatch). part.length < 2 ^ 28) l.parts.items;
  each : All (IsWeightedBatch l.given.wave.now l.given.pairs.now) l.parts.items;
}
