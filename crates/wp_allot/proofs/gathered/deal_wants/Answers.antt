use Rattle.std.proofs.Common.{◌≡◌, sym, subst, get_or, arith}
use Rattle.std.proofs.lemmas.Option.{slice_get-get_or}
use Rattle.wp_allot.proofs.DealtArticle.{IsDealing, all_dealt, can_serve_of, dealing_more_of, dealing_start}
use Rattle.wp_allot.specs.declared.mark.Mark.{Mark}
use Rattle.wp_allot.specs.declared.want.Want.{Want}
use Rattle.wp_allot.proofs.gathered.deal_wants.Goals as goal

abbrev none : Want
none = record { order = 0; article = 0; quantity = 0 }

pub loop-place-init : goal.loop-place-init
loop-place-init c =
    subst (λ (mark : Mark). IsDealing c.args.book.now.rows c.args.wants.now c.args.of.now.article c.args.except c.args.start mark c.args.room.now
    c.args.room.now)
    (sym c.start-mark.ensures)
    (dealing_start c.args.book.now.rows c.args.wants.now c.args.of.now.article c.args.except c.args.start c.args.room.now c.requires.can c.requires.of.none)

pub serve-requires : goal.serve-requires
serve-requires c =
    let of = c.requires.of in
    let place = c.loop-place.place in
    let there = slice_get-get_or c.args.wants.now place none (omega (arith, of.within)) in
    can_serve_of c.args.book.now.rows c.args.wants.now c.args.of.now.article c.args.except place (get_or c.args.wants.now place none) c.loop-place.mark
    c.args.room.now c.loop-place.room (of.own place _ (omega arith) (omega arith) there) c.requires.can there (omega (arith, of.within)) c.loop-place.invariant

pub loop-place-preserved : goal.loop-place-preserved
loop-place-preserved c =
    let of = c.requires.of in
    let place = c.loop-place.place in
    let there = slice_get-get_or c.args.wants.now place none (omega (arith, of.within)) in
    dealing_more_of c.args.book.now.rows c.args.wants.now c.args.of.now.article c.args.except place (get_or c.args.wants.now place none) c.loop-place.mark
    c.serve.new.mark c.args.room.now c.loop-place.room c.serve.new.room (of.own place _ (omega arith) (omega arith) there) c.requires.can there
    (omega (arith, of.within)) c.loop-place.invariant c.serve.ensures

pub returns : goal.returns
returns c =
    let e : c.loop-place.place ≡ c.args.of.now.end = omega (arith, c.requires.of.after) in
    all_dealt c.args.book.now.rows c.args.wants.now c.args.of.now.article c.args.except c.args.of.now.end c.loop-place.mark c.args.room.now
    c.loop-place.room c.requires.of.all
    (subst (λ n. IsDealing c.args.book.now.rows c.args.wants.now c.args.of.now.article c.args.except n c.loop-place.mark c.args.room.now c.loop-place.room) e
    c.loop-place.invariant)
