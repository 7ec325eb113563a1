use Rattle.std.proofs.Common.{◌≡◌, ℕ, ◌<◌, ◌≤◌}
use Rattle.wp_model.specs.Warehouse.{spacing_after}
use Rattle.wp_layout.proofs.printing.are_same.Given as goal

abbrev pub invariant-loop-left : goal.invariant-loop-left
invariant-loop-left l = (at : ℕ) → 2 ≤ at → at < l.left → spacing_after l.layout at ≡ spacing_after l.layout 1
