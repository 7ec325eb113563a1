use Rattle.std.proofs.Common.{◌∙◌, sym}
use Rattle.std.proofs.lemmas.Option.{slice_get-get_or}
use Rattle.wp_allot.proofs.FilledRoom.{can_deal, first_dealt, later_dealt}
use Rattle.wp_allot.proofs.OrderIntervals.{in_turn}
use Rattle.wp_allot.specs.declared.want.Want.{Want}
use Rattle.wp_allot.proofs.deal.deal_first.Goals as goal

abbrev none : Want
none = record { order = 0; article = 0; quantity = 0 }

pub deal_article-requires : goal.deal_article-requires
deal_article-requires c =
    let there = slice_get-get_or c.args.wants.now c.args.place none c.requires.place in
    can_deal c.args.book.now.rows c.args.wants.now c.args.except c.args.place _ c.args.room.now (in_turn c.args.wants.now c.requires.regular)
    c.requires.covered c.requires.dealt there
    c.requires.place (sym c.wanted_units.ensures ∙ c.if-wanted_units-eq0.true)

pub returns-then-wanted_units-eq0-clause-dealt : goal.returns-then-wanted_units-eq0-clause-dealt
returns-then-wanted_units-eq0-clause-dealt c =
    let there = slice_get-get_or c.args.wants.now c.args.place none c.requires.place in
    first_dealt c.args.book.now.rows c.args.wants.now c.args.except c.args.place _ c.args.room.now c.deal_article.new.room
    (in_turn c.args.wants.now c.requires.regular) c.requires.dealt
    there c.requires.place
    (sym c.wanted_units.ensures ∙ c.if-wanted_units-eq0.true) c.deal_article.ensures

pub returns-else-wanted_units-eq0-clause-dealt : goal.returns-else-wanted_units-eq0-clause-dealt
returns-else-wanted_units-eq0-clause-dealt c =
    let there = slice_get-get_or c.args.wants.now c.args.place none c.requires.place in
    later_dealt c.args.book.now.rows c.args.wants.now c.args.except c.args.place _ c.args.room.now c.requires.dealt there c.requires.place
    (λ e. c.if-wanted_units-eq0.false (c.wanted_units.ensures ∙ e))
