use Rattle.wp_cuts.proofs.Divisors.{IsGreatestBefore}
use Rattle.wp_cuts.proofs.step.step_of.Given as goal

abbrev pub invariant-loop-aisle : goal.invariant-loop-aisle
invariant-loop-aisle l = IsGreatestBefore l.layout l.aisle l.half
