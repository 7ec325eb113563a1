use Rattle.std.proofs.Common.{◌≡◌, map, take, pos}
use Rattle.wp_lp.specs.declared.part.WeightedBatch.{WeightedBatch}
use Rattle.wp_lp.proofs.whole.weights_of.Given as goal

abbrev pub invariant-loop-part : goal.invariant-loop-part
invariant-loop-part l = l.weights.items ≡ map (λ (part : WeightedBatch). pos part.weight) (take l.part-index l.parts)
