use Rattle.std.proofs.Common.{◌≡◌, ◌≤◌, ◌-◌, length}
use Rattle.wp_allot.specs.DealtUnits.{AreDealtUnits}
use Rattle.wp_allot.specs.Gathered.{IsBorder}
use Rattle.wp_allot.proofs.gathered.holds_by_overlap.Given as goal

abbrev pub invariant-loop-start : goal.invariant-loop-start
invariant-loop-start l = record {
  size : l.room.size ≡ l.fn.room.size;
  dealt : AreDealtUnits l.book.rows l.wants l.except l.start l.room;
  border : IsBorder l.wants l.start;
  within : l.start ≤ length l.wants;
}

abbrev pub decreases-loop-start : goal.decreases-loop-start
decreases-loop-start l = length l.wants - l.start
