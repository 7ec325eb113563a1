use Rattle.std.proofs.Common.{◌≡◌, ◌*◌, ◌^◌, ◌≤◌}
use Rattle.std.specs.Prelude.{slice_index}
use Rattle.wp_pairs.proofs.SumsUnder.{sum_under}
use Rattle.wp_lengths.proofs.sums.sum_of.Given as goal

abbrev pub invariant-loop-order : goal.invariant-loop-order
invariant-loop-order l = record { under : l.total ≡ sum_under (slice_index l.duals) l.order l.batch; small : l.total ≤ l.order * 2 ^ 64 }
