use Rattle.std.proofs.Common.{◌≡◌, ◌*◌, ◌^◌, ◌≤◌}
use Rattle.wp_model.specs.Sums.{sum_below}
use Rattle.wp_node.specs.Prices.{choose}
use Rattle.wp_node.proofs.price.sets_of.Given as goal

abbrev pub invariant-loop-taken : goal.invariant-loop-taken
invariant-loop-taken l = record { so_far : l.sets ≡ sum_below l.taken (choose l.orders); small : l.sets ≤ l.taken * 2 ^ 64 }
