use Rattle.std.proofs.Common.{◌≡◌, ◌<◌, All, length}
use Rattle.wp_samples.proofs.waves.orders_of.Given as goal

abbrev pub invariant-loop : goal.invariant-loop
invariant-loop l = record {
  of_layout : All (λ picks. picks.layout ≡ l.layout) l.all.items;
  filled : All (λ picks. 0 < length picks.points) l.all.items;
}

abbrev pub invariant-loop-slots : goal.invariant-loop-slots
invariant-loop-slots l = record {
  of_layout : All (λ picks. picks.layout ≡ l.layout) l.all.items;
  filled : All (λ picks. 0 < length picks.points) l.all.items;
}
