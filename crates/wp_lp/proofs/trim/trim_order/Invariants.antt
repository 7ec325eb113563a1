use Rattle.std.proofs.Common.{◌≡◌, ◌≢◌, ◌⊎◌, ◌+◌, ◌≤◌, ℕ, All, take}
use Rattle.wp_lp.specs.Parts.{IsWeightedBatch, cost_of, cover_of}
use Rattle.wp_lp.proofs.trim.trim_order.Given as goal

abbrev pub invariant-loop-part : goal.invariant-loop-part
invariant-loop-part l = record {
  others : (other : ℕ) → other ≢ l.order → cover_of l.trimmed.items other ≡ cover_of (take l.part-index l.parts) other;
  own : cover_of l.trimmed.items l.order + l.left ≡ l.whole;
  spent : (l.left ≡ 0) ⊎ (cover_of l.trimmed.items l.order ≡ cover_of (take l.part-index l.parts) l.order);
  cost : cost_of l.trimmed.items ≤ cost_of (take l.part-index l.parts);
  each : All (IsWeightedBatch l.given.wave.now l.given.pairs.now) l.trimmed.items;
}
