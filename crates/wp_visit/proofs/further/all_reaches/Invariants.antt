use Rattle.std.proofs.Common.{◌≡◌, ◌+◌, ◌-◌, length}
use Rattle.wp_visit.specs.Items.{AreReachesBelow, AreReachesFrom}
use Rattle.wp_visit.proofs.further.all_reaches.Given as goal

abbrev pub invariant-loop-passed : goal.invariant-loop-passed
invariant-loop-passed l = record {
  count : length l.all.items ≡ l.passed;
  each : AreReachesFrom l.given.paired.pairs.now l.given.duals.now l.all.items;
  now : AreReachesBelow l.given.paired.pairs.now l.given.duals.now (l.given.paired.pairs.now.orders - l.passed)
      (l.given.paired.pairs.now.capacity + 1) l.reaches;
}
