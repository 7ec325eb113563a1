use Rattle.std.proofs.Common.{◌≡◌}
use Rattle.wp_savings.proofs.keys.sought.Given as goal

-- all orders so far pick in the layout
abbrev pub invariant-loop-one : goal.invariant-loop-one
invariant-loop-one l = l.sought.layout ≡ l.layout
