use Rattle.std.proofs.Common.{◌≡◌, ◌+◌, ◌*◌, ◌≤◌, ◌^◌, drop}
use Rattle.wp_cuts.specs.Prices.{taken_off_all}
use Rattle.wp_cert.proofs.paying.taken_off_all.Given as goal

abbrev pub invariant-loop-at : goal.invariant-loop-at
invariant-loop-at l = record {
  so_far : l.total + taken_off_all (drop l.at l.cuts.items) (drop l.at l.prices) ≡ taken_off_all l.cuts.items l.prices;
  small : l.total ≤ l.at * (4096 * 2 ^ 64);
}
