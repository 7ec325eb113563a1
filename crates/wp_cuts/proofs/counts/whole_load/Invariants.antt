use Rattle.std.proofs.Common.{◌≡◌, ◌*◌, ◌≤◌, take}
use Rattle.std.specs.Prelude.{sum}
use Rattle.wp_cuts.proofs.counts.whole_load.Given as goal

abbrev pub invariant-loop-order : goal.invariant-loop-order
invariant-loop-order l = record { so_far : l.total ≡ sum (take l.order l.cart.loads); small : l.total ≤ l.order * l.cart.units }
