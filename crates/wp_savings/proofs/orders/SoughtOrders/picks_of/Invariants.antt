use Rattle.std.proofs.Common.{◌≡◌}
use Rattle.wp_savings.proofs.orders.SoughtOrders.picks_of.Given as goal

-- the slots are of the layout
abbrev pub invariant-loop-place : goal.invariant-loop-place
invariant-loop-place l = l.picks.layout ≡ l.self.layout
