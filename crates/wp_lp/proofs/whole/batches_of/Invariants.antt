use Rattle.std.proofs.Common.{◌≡◌, map, take}
use Rattle.wp_lp.specs.declared.part.WeightedBatch.{WeightedBatch}
use Rattle.wp_lp.proofs.whole.batches_of.Given as goal

abbrev pub invariant-loop-part : goal.invariant-loop-part
invariant-loop-part l = l.batches.items ≡ map (λ (part : WeightedBatch). part.batch) (take l.part-index l.parts)
