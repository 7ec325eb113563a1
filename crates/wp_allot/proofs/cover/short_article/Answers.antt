use Rattle.std.proofs.Common.{arith, subst}
use Rattle.std.proofs.lemmas.Option.{slice_get-get_or}
use Rattle.wp_allot.proofs.FirstShortArticle.{short_from_all}
use Rattle.wp_allot.specs.Cover.{IsFirstAmong}
use Rattle.wp_allot.specs.declared.want.Want.{Want}
use Rattle.wp_allot.proofs.cover.short_article.Goals as goal

abbrev none : Want
none = record { order = 0; article = 0; quantity = 0 }

pub loop-want-preserved : goal.loop-want-preserved
loop-want-preserved c =
    let there = slice_get-get_or c.args.wants.now c.loop-want.want-index none c.loop-want-test.true in
    c.earlier-first.ensures c.args.book.now.rows c.args.wants.now c.args.except c.loop-want.want-index _ there c.loop-want.invariant
    (c.shortage.ensures c.args.wants.now c.wanted_units-wanted.ensures)

pub returns : goal.returns
returns c =
    short_from_all c.args.book.now.rows c.args.wants.now c.args.except c.loop-want.first
    (subst (λ n. IsFirstAmong c.args.book.now.rows c.args.wants.now c.args.except n c.loop-want.first) (omega arith) c.loop-want.invariant)
