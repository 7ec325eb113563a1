use Rattle.std.proofs.Common.{◌≡◌, ◌*◌, ◌^◌, ◌≤◌, take}
use Rattle.std.specs.Prelude.{sum}
use Rattle.wp_lengths.proofs.sums.total_of.Given as goal

abbrev pub invariant-loop-order : goal.invariant-loop-order
invariant-loop-order l = record { so_far : l.total ≡ sum (take l.order l.duals); small : l.total ≤ l.order * 2 ^ 64 }
