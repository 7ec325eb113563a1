use Rattle.std.proofs.Common.{◌≤◌, All, length}
use Rattle.wp_lp.specs.Parts.{AreEnough, AreExact, IsWeightedBatch, cost_of}
use Rattle.wp_lp.proofs.trim.trim.Given as goal

abbrev pub invariant-loop-order : goal.invariant-loop-order
invariant-loop-order l = record {
  exact : AreExact l.order l.whole l.trimmed.items;
  enough : AreEnough (length l.given.wave.now.orders) l.whole l.trimmed.items;
  cost : cost_of l.trimmed.items ≤ cost_of l.initial.trimmed.items;
  each : All (IsWeightedBatch l.given.wave.now l.given.pairs.now) l.trimmed.items;
}
