use Rattle.std.proofs.Common.{◌≡◌, ◌+◌, ◌*◌, ◌≤◌, drop}
use Rattle.wp_lengths.specs.Duals.{greatest_dual}
use Rattle.wp_cuts.specs.Prices.{taken_off}
use Rattle.wp_cuts.proofs.prices.Prices.taken_off.Given as goal

abbrev pub invariant-loop-at : goal.invariant-loop-at
invariant-loop-at l = record {
  so_far : l.total + taken_off (drop l.at l.cuts.items) (drop l.at l.self.cuts) l.batch ≡ taken_off l.cuts.items l.self.cuts l.batch;
  small : l.total ≤ l.at * (4096 * greatest_dual);
}
