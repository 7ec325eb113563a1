use Rattle.std.proofs.Common.{sym, subst, ◌-◌, length, arith}
use Rattle.wp_model.specs.declared.row.Hold.{Hold}
use Rattle.wp_book.proofs.ArticleRows.{length-below}
use Rattle.wp_book.specs.ArticleRows.{is_row_of, rows_of}
use Rattle.wp_allot.proofs.ArticleOffers.{is_place}
use Rattle.wp_allot.proofs.ServedOrder.{HasPassed, IsServing, fewer_left, has_passed, none_there, place_within, serving_more}
use Rattle.wp_allot.proofs.SingleHolds.{has_put}
use Rattle.wp_allot.specs.DealtUnits.{offer_in}
use Rattle.wp_allot.proofs.serve.serve.Goals as goal

pub place-row-requires : goal.place-row-requires
place-row-requires c = place_within c.args.book.now.rows c.args.want.now c.args.except _ _ _ _ _ c.requires c.loop-wanted.invariant c.loop-wanted-test.true

pub pass-requires-clause-place : goal.pass-requires-clause-place
pass-requires-clause-place c =
    let rows = c.args.book.now.rows in
    let within = place_within rows c.args.want.now c.args.except _ _ _ _ _ c.requires c.loop-wanted.invariant c.loop-wanted-test.true in
    omega (arith, within, length-below (length rows) (is_row_of c.args.want.now.article rows))

-- the mark after the row's units
passes : (c : goal.After-from-wanted)
    → HasPassed (offer_in c.args.book.now.rows c.args.want.now.article c.args.except) c.loop-wanted.mark c.pass.new.self c.min-quantity.result
    (c.loop-wanted.wanted - c.min-quantity.result) c.args.book.now.rows c.args.want.now.article
passes c =
    let rows = c.args.book.now.rows in
    let article = c.args.want.now.article in
    let within = place_within rows c.args.want.now c.args.except _ _ _ _ _ c.requires c.loop-wanted.invariant c.loop-wanted-test.true in
    let place = is_place rows article c.args.except c.loop-wanted.mark.place c.place-row.result c.place-row.ensures in
    has_passed rows article c.args.except c.loop-wanted.mark c.pass.new.self c.loop-wanted.wanted
    (c.offered.result - c.loop-wanted.mark.taken) c.min-quantity.result within c.loop-wanted-test.true
    (omega (arith, c.offered.ensures.units, place.offer, c.loop-wanted.invariant.served.taken)) (omega arith) c.pass.ensures

pub loop-wanted-smaller : goal.loop-wanted-smaller
loop-wanted-smaller c =
    let rows = c.args.book.now.rows in
    let within = place_within rows c.args.want.now c.args.except _ _ _ _ _ c.requires c.loop-wanted.invariant c.loop-wanted-test.true in
    omega (
      arith,
      c.from-wanted.ensures,
      fewer_left (length (rows_of c.args.want.now.article rows)) c.loop-wanted.mark c.pass.new.self c.loop-wanted.wanted
          (c.offered.result - c.loop-wanted.mark.taken) c.min-quantity.result within c.loop-wanted-test.true (omega arith) c.pass.ensures,
    )

pub loop-wanted-preserved : goal.loop-wanted-preserved
loop-wanted-preserved c =
    let rows = c.args.book.now.rows in
    let want = c.args.want.now in
    let row = c.place-row.result in
    let is = c.loop-wanted.invariant in
    let place = is_place rows want.article c.args.except c.loop-wanted.mark.place row c.place-row.ensures in
    let none = none_there rows want c.args.except c.loop-wanted.wanted row _ _ _ _ c.requires is c.loop-wanted-test.true c.place-row.ensures in
    let hold : Hold = record { order = want.order; row = row; quantity = c.min-quantity.result } in
    let put = has_put rows c.loop-wanted.room c.put_units.new.room hold is.served.single (λ some. place.within)
    (λ some. none (omega (arith, c.offered.ensures.units))) c.put_units.ensures in
    subst (λ u. IsServing rows want c.args.except (c.loop-wanted.wanted - u) c.args.mark.now c.pass.new.self c.args.room.now c.put_units.new.room)
    (sym c.from-wanted.ensures)
    (serving_more rows want c.args.except c.loop-wanted.wanted c.min-quantity.result row c.args.mark.now c.loop-wanted.mark c.pass.new.self c.args.room.now
    c.loop-wanted.room c.put_units.new.room
    c.requires is c.loop-wanted-test.true (omega arith) c.place-row.ensures (omega (arith, c.offered.ensures.units, place.offer, is.served.taken)) put
    (passes c))
