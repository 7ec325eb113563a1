use Rattle.std.proofs.Common.{◌∙◌, ap, sym, subst, take, arith}
use Rattle.wp_allot.proofs.FilledRoom.{can_deal}
use Rattle.wp_allot.proofs.GatheredWants.{article_dealt}
use Rattle.wp_allot.specs.DealtUnits.{CanDeal}
use Rattle.wp_allot.specs.Wants.{wanted_of}
use Rattle.wp_allot.proofs.gathered.deal_article.Goals as goal

pub deal_wants-requires-clause-can : goal.deal_wants-requires-clause-can
deal_wants-requires-clause-can c =
    let of = c.wants_at-of.ensures in
    let none = ap (wanted_of (take c.args.start c.args.wants.now)) (sym of.article) ∙ of.none in
    subst (λ article. CanDeal c.args.book.now.rows c.args.wants.now article c.args.except c.args.room.now) (sym of.article)
    (can_deal c.args.book.now.rows c.args.wants.now c.args.except c.args.start of.first c.args.room.now c.requires.gathered.turn c.requires.covered
    c.requires.dealt of.there (omega (arith, of.after, of.within)) none)

pub returns-clause-dealt : goal.returns-clause-dealt
returns-clause-dealt c =
    article_dealt c.args.book.now.rows c.args.wants.now c.args.except c.args.start c.wants_at-of.result c.args.room.now c.deal_wants.new.room
    c.requires.gathered.turn c.wants_at-of.ensures c.requires.dealt c.deal_wants.ensures
