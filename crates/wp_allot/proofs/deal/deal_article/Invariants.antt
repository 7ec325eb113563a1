use Rattle.wp_allot.proofs.DealtArticle.{IsDealing}
use Rattle.wp_allot.proofs.deal.deal_article.Given as goal

abbrev pub invariant-loop-want : goal.invariant-loop-want
invariant-loop-want l = IsDealing l.book.rows l.wants l.article l.except l.want-index l.mark l.fn.room l.room
