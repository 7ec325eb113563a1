use Rattle.std.proofs.Common.{◌≤◌, All}
use Rattle.wp_lengths.specs.Duals.{greatest_dual}
use Rattle.wp_batch_tests.proofs.price.duals_of.Given as goal

abbrev pub invariant-loop-dual : goal.invariant-loop-dual
invariant-loop-dual l = All (λ dual. dual ≤ greatest_dual) l.duals.items
