use Rattle.std.proofs.Common.{take}
use Rattle.wp_planner.proofs.OrderLoads.{AreKept}
use Rattle.wp_planner.proofs.loads.loads_within.Given as goal

abbrev pub invariant-loop-hold : goal.invariant-loop-hold
invariant-loop-hold l = AreKept l.units (take l.hold-index l.holds) l.loads
