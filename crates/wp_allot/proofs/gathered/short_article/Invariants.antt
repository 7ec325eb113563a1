use Rattle.std.proofs.Common.{◌≤◌, ◌-◌, None, length}
use Rattle.wp_allot.specs.Cover.{IsFirstAmong}
use Rattle.wp_allot.specs.Gathered.{IsBorder}
use Rattle.wp_allot.proofs.gathered.short_article.Given as goal

abbrev pub invariant-loop-start : goal.invariant-loop-start
invariant-loop-start l = record {
  enough : IsFirstAmong l.book.rows l.wants l.except l.start None;
  border : IsBorder l.wants l.start;
  within : l.start ≤ length l.wants;
}

abbrev pub decreases-loop-start : goal.decreases-loop-start
decreases-loop-start l = length l.wants - l.start
