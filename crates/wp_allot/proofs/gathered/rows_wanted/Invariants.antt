use Rattle.std.proofs.Common.{◌≡◌, ◌≤◌, ◌-◌, length, take}
use Rattle.wp_allot.specs.Gathered.{IsBorder}
use Rattle.wp_allot.specs.Wants.{wanted_places}
use Rattle.wp_allot.proofs.gathered.rows_wanted.Given as goal

abbrev pub invariant-loop-start : goal.invariant-loop-start
invariant-loop-start l = record {
  rows : l.rows ≡ wanted_places l.stock.rows (take l.start l.wants);
  border : IsBorder l.wants l.start;
  within : l.start ≤ length l.wants;
}

abbrev pub decreases-loop-start : goal.decreases-loop-start
decreases-loop-start l = length l.wants - l.start
