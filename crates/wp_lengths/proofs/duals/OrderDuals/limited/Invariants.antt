use Rattle.std.proofs.Common.{◌≡◌, ◌≤◌, All, length}
use Rattle.wp_lengths.specs.Duals.{greatest_dual}
use Rattle.wp_lengths.proofs.duals.OrderDuals.limited.Given as goal

abbrev pub invariant-loop-order : goal.invariant-loop-order
invariant-loop-order l = record {
  count : length l.limited.items ≡ l.order;
  within : All (λ dual. dual ≤ greatest_dual) l.limited.items;
}
