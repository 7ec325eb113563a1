use Rattle.std.proofs.Common.{◌+◌, refl, ap, sym, subst, get_or, List, arith}
use Rattle.std.proofs.lemmas.Option.{slice_get-get_or}
use Rattle.wp_book.specs.Room.{Content}
use Rattle.wp_allot.proofs.DealtArticle.{IsDealing, all_dealt, can_serve_of, dealing_more_of, dealing_other, dealing_start}
use Rattle.std.proofs.lemmas.List.{take_all}
use Rattle.wp_allot.specs.DealtUnits.{IsServed}
use Rattle.wp_allot.specs.Wants.{wanted_of}
use Rattle.wp_allot.specs.declared.mark.Mark.{Mark}
use Rattle.wp_allot.specs.declared.want.Want.{Want}
use Rattle.wp_allot.proofs.deal.deal_article.Goals as goal
use Rattle.wp_allot.proofs.deal.deal_article.Goals.{then-want-article, else-want-article}

abbrev none : Want
none = record { order = 0; article = 0; quantity = 0 }

pub loop-want-init : goal.loop-want-init
loop-want-init c =
    subst (λ (mark : Mark). IsDealing c.args.book.now.rows c.args.wants.now c.args.article c.args.except 0 mark c.args.room.now c.args.room.now)
    (sym c.start-mark.ensures)
    (dealing_start c.args.book.now.rows c.args.wants.now c.args.article c.args.except 0 c.args.room.now c.requires refl)

pub serve-requires : goal.serve-requires
serve-requires c =
    let there = slice_get-get_or c.args.wants.now c.loop-want.want-index none c.loop-want-test.true in
    can_serve_of c.args.book.now.rows c.args.wants.now c.args.article c.args.except c.loop-want.want-index _ c.loop-want.mark c.args.room.now c.loop-want.room
    c.if-want-article.true c.requires there c.loop-want-test.true c.loop-want.invariant

pub loop-want-preserved : goal.loop-want-preserved
loop-want-preserved c =
    let rows = c.args.book.now.rows in
    let wants = c.args.wants.now in
    let place = c.loop-want.want-index in
    let there = slice_get-get_or wants place none c.loop-want-test.true in
    elim c.if-want-article.branch [
      | then-want-article w ↦
          let served = subst (λ (mark : Mark). IsServed rows
          (get_or wants place none) c.args.except 0 c.loop-want.mark mark c.loop-want.room c.if-want-article.room) (sym w.mark-is)
          (subst (λ (room : Content). IsServed rows (get_or wants place none) c.args.except 0 c.loop-want.mark w.serve.new.mark c.loop-want.room room)
          (sym w.room-is) w.serve.ensures) in
          dealing_more_of rows wants c.args.article c.args.except place
          (get_or wants place none) c.loop-want.mark c.if-want-article.mark c.args.room.now c.loop-want.room c.if-want-article.room w.if-want-article.true
          c.requires there
          c.loop-want-test.true c.loop-want.invariant served
      | else-want-article w ↦
          subst (λ (mark : Mark). IsDealing rows wants c.args.article c.args.except (place + 1) mark c.args.room.now c.if-want-article.room) (sym w.mark-is)
          (subst (λ (room : Content). IsDealing rows wants c.args.article c.args.except (place + 1) c.loop-want.mark c.args.room.now room) (sym w.room-is)
          (dealing_other rows wants c.args.article c.args.except place
          (get_or wants place none) c.loop-want.mark c.args.room.now c.loop-want.room there c.loop-want-test.true w.if-want-article.false
          c.loop-want.invariant))
    ]

pub returns : goal.returns
returns c = all_dealt c.args.book.now.rows c.args.wants.now c.args.article c.args.except c.loop-want.want-index c.loop-want.mark c.args.room.now
    c.loop-want.room
    (ap (λ (xs : List Want). wanted_of xs c.args.article) (take_all c.loop-want.want-index c.args.wants.now (omega arith))) c.loop-want.invariant
