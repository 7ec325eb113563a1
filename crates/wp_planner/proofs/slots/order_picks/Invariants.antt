use Rattle.std.proofs.Common.{take}
use Rattle.wp_planner.specs.Slots.{ArePicksOf}
use Rattle.wp_planner.proofs.slots.order_picks.Given as goal

abbrev pub invariant-loop-hold : goal.invariant-loop-hold
invariant-loop-hold l = ArePicksOf l.layout l.rows (take l.hold-index l.holds) l.orders l.picks.items
