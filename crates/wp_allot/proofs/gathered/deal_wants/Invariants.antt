use Rattle.wp_allot.proofs.DealtArticle.{IsDealing}
use Rattle.wp_allot.proofs.gathered.deal_wants.Given as goal

abbrev pub invariant-loop-place : goal.invariant-loop-place
invariant-loop-place l = IsDealing l.book.rows l.wants l.of.article l.except l.place l.mark l.fn.room l.room
