use Rattle.std.proofs.Common.{ℕ, ◌<◌}
use Rattle.wp_planner.specs.Released.{HasHold}
use Rattle.wp_planner.proofs.released.are_filled.Given as goal

abbrev pub invariant-loop-order : goal.invariant-loop-order
invariant-loop-order l = (order : ℕ) → order < l.order → HasHold l.holds order
