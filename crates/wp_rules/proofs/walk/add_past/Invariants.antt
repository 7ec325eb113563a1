use Rattle.std.proofs.Common.{◌≡◌, ◌++◌, drop}
use Rattle.wp_rules.specs.Straight.{past}
use Rattle.wp_rules.proofs.walk.add_past.Given as goal

abbrev pub invariant-loop-stop : goal.invariant-loop-stop
invariant-loop-stop l = l.points.items ++ past l.at (drop l.stop-index l.stops) ≡ l.fn.points.items ++ past l.fn.from l.stops
