use Rattle.std.proofs.Common.{◌≡◌}
use Rattle.wp_savings.proofs.orders.join.Given as goal

-- the slots are of the layout
abbrev pub invariant-loop-slot : goal.invariant-loop-slot
invariant-loop-slot l = l.picks.layout ≡ l.layout
