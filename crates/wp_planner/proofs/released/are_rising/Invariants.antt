use Rattle.wp_planner.proofs.Rising.{EachBeforeNext}
use Rattle.wp_planner.proofs.released.are_rising.Given as goal

abbrev pub invariant-loop-place : goal.invariant-loop-place
invariant-loop-place l = EachBeforeNext l.holds l.place
