use Rattle.std.proofs.Common.{nat_lt}
use Rattle.std.specs.List.{IsFirstBest}
use Rattle.wp_crew.proofs.deal.least_loaded.Given as goal

abbrev pub invariant-loop-picker : goal.invariant-loop-picker
invariant-loop-picker l = IsFirstBest nat_lt l.loads l.picker l.best
