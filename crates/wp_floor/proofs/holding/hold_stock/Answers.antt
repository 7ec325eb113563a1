use Rattle.std.proofs.Common.{◌<◌, ap, sym, subst, List, length, arith}
use Rattle.wp_allot.specs.Wants.{IsRoomFor, wanted_of}
use Rattle.wp_allot.specs.declared.want.Want.{Want}
use Rattle.wp_floor.proofs.WaveStock.{fits, short_is_wanted}
use Rattle.wp_model.proofs.Elements.{All-at}
use Rattle.wp_floor.proofs.holding.hold_stock.Goals as goal

pub refuse_short-why-requires : goal.refuse_short-why-requires
refuse_short-why-requires c =
    let is = c.in-Some.ensures in
    short_is_wanted c.args.needs.wants.items _ c.in-Some.short.article
    (λ k want there. All-at (λ (w : Want). w.article < length c.args.opening.now.stock.articles) c.args.needs.wants.items k want
    c.requires.needs.wants.within there)
    (omega (arith, is.less, is.wanted, ap (λ (ws : List Want). wanted_of ws c.in-Some.short.article) c.as_slice.ensures.value))

pub allot-requires-clause-room : goal.allot-requires-clause-room
allot-requires-clause-room c =
    subst (λ (ws : List Want). IsRoomFor c.args.book.now.rows ws c.args.needs.rooms.room) (sym c.as_slice-2.ensures.value)
    (fits c.args.opening.now c.args.book.now.rows c.args.needs.wants.items c.args.needs.rooms.room c.requires.rows c.requires.needs.space.room)

pub allot-requires-clause-list : goal.allot-requires-clause-list
allot-requires-clause-list c =
    subst (λ (ws : List Want). IsRoomFor c.args.book.now.rows ws c.args.needs.rooms.sheet) (sym c.as_slice-2.ensures.value)
    (fits c.args.opening.now c.args.book.now.rows c.args.needs.wants.items c.args.needs.rooms.sheet c.requires.rows c.requires.needs.space.sheet)
