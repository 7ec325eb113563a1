use Rattle.std.proofs.Common.{subst, None, arith}
use Rattle.wp_allot.proofs.FirstShortArticle.{short_from_all}
use Rattle.wp_allot.proofs.GatheredWants.{short_here}
use Rattle.wp_allot.specs.Cover.{IsFirstAmong}
use Rattle.wp_allot.proofs.gathered.short_article.Goals as goal

pub returns-in-Some : goal.returns-in-Some
returns-in-Some c =
    let is = c.in-Some.ensures c.args.wants.now c.wants_at-of.ensures.units in
    short_here c.args.book.now.rows c.args.wants.now c.args.except c.loop-start.start c.wants_at-of.result c.in-Some.short c.requires c.wants_at-of.ensures
    c.loop-start.invariant.enough is.0 is.1

pub returns : goal.returns
returns c =
    short_from_all c.args.book.now.rows c.args.wants.now c.args.except None
    (subst (λ n. IsFirstAmong c.args.book.now.rows c.args.wants.now c.args.except n None) (omega arith) c.loop-start.invariant.enough)
