use Rattle.std.proofs.Common.{All}
use Rattle.wp_node.specs.Weights.{IsWeighted}
use Rattle.wp_node.proofs.work.nearest_weighted.Given as goal

abbrev pub invariant-loop-place : goal.invariant-loop-place
invariant-loop-place l = All (IsWeighted l.columns l.solved.weights.items) l.nearest.items
