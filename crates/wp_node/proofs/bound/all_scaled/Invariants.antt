use Rattle.std.proofs.Common.{◌≡◌, length}
use Rattle.wp_node.proofs.bound.all_scaled.Given as goal

abbrev pub invariant-loop-value : goal.invariant-loop-value
invariant-loop-value l = length l.parts.items ≡ l.value-index
