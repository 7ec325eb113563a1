use Rattle.std.proofs.Common.{◌≡◌, ◌+◌, length}
use Rattle.wp_visit.specs.Items.{AreReachesBelow}
use Rattle.wp_visit.proofs.further.reaches_with.Given as goal

abbrev pub invariant-loop-room : goal.invariant-loop-room
invariant-loop-room l = record {
  below : AreReachesBelow l.given.paired.pairs.now l.given.duals.now l.order (l.room + 1) l.reaches;
  filled : length l.reaches ≡ 9;
}
