use Rattle.std.proofs.Common.{◌≡◌, ◌<◌, All, length}
use Rattle.wp_samples.proofs.waves.made_orders.Given as goal

abbrev pub invariant-loop : goal.invariant-loop
invariant-loop l = record {
  of_layout : All (λ picks. picks.layout ≡ l.layout) l.orders.items;
  filled : All (λ picks. 0 < length picks.points) l.orders.items;
}
