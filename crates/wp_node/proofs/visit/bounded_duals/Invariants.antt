use Rattle.std.proofs.Common.{◌≡◌, length}
use Rattle.wp_visit.specs.Items.{AreBounded}
use Rattle.wp_node.proofs.visit.bounded_duals.Given as goal

abbrev pub invariant-loop-order : goal.invariant-loop-order
invariant-loop-order l = record { count : length l.bounded.items ≡ l.order; bounded : AreBounded l.bounded.items }
