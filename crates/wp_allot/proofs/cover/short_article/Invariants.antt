use Rattle.wp_allot.specs.Cover.{IsFirstAmong}
use Rattle.wp_allot.proofs.cover.short_article.Given as goal

abbrev pub invariant-loop-want : goal.invariant-loop-want
invariant-loop-want l = IsFirstAmong l.book.rows l.wants l.except l.want-index l.first
