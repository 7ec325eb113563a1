use Rattle.std.proofs.Common.{◌≡◌, ◌+◌, ◌*◌, ◌≤◌, ◌^◌, drop}
use Rattle.wp_cuts.specs.Prices.{taken_off}
use Rattle.wp_cuts.proofs.table.CutTable.taken_off.Given as goal

abbrev pub invariant-loop-at : goal.invariant-loop-at
invariant-loop-at l = record {
  so_far : l.total + taken_off (drop l.at l.self) (drop l.at l.prices) l.fn.batch ≡ taken_off l.self l.prices l.fn.batch;
  small : l.total ≤ l.at * (4096 * 2 ^ 64);
}
