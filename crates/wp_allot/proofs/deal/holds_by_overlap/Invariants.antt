use Rattle.std.proofs.Common.{◌≡◌}
use Rattle.wp_allot.specs.DealtUnits.{AreDealtUnits}
use Rattle.wp_allot.proofs.deal.holds_by_overlap.Given as goal

abbrev pub invariant-loop-place : goal.invariant-loop-place
invariant-loop-place l = record { size : l.room.size ≡ l.fn.room.size; dealt : AreDealtUnits l.book.rows l.wants l.except l.place l.room }
