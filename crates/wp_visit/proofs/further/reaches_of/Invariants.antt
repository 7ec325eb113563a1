use Rattle.std.proofs.Common.{◌≡◌, ◌+◌, length}
use Rattle.wp_lengths.specs.Reaches.{HaveMost}
use Rattle.wp_visit.specs.Items.{AreReachesBelow}
use Rattle.wp_visit.proofs.further.reaches_of.Given as goal

abbrev pub invariant-loop-room : goal.invariant-loop-room
invariant-loop-room l = record {
  below : AreReachesBelow l.given.paired.pairs.now l.given.duals.now l.from (l.room + 1) l.reaches;
  have : HaveMost l.given.paired.pairs.now l.given.duals.now l.from l.room l.taken;
  filled : length l.reaches ≡ 9;
}
