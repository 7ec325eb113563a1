use Rattle.std.proofs.Common.{◌*◌, ◌^◌, ◌≤◌, take}
use Rattle.wp_lengths.specs.Batchings.{IsCost}
use Rattle.wp_search.proofs.cost.cost_of.Given as goal

abbrev pub invariant-loop-place : goal.invariant-loop-place
invariant-loop-place l = record { so_far : IsCost l.wave (take l.place l.batching) l.cost; small : l.cost ≤ l.place * 2 ^ 28 }
