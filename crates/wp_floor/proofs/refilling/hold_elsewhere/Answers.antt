use Rattle.std.proofs.Common.{[], ◌∷◌, ◌∙◌, Some, sym}
use Rattle.wp_floor.proofs.RefilledUnits.{held_elsewhere, none_is_short, want_again}
use Rattle.wp_floor.proofs.refilling.hold_elsewhere.Goals as goal

pub returns-clause-held : goal.returns-clause-held
returns-clause-held c =
    let lost = c.args.lost in
    held_elsewhere c.args.number c.args.quantity c.from.result lost c.args.book.now c.allot.new.book c.args.rooms.sheet c.allot.new.list
    c.from.ensures
    (none_is_short c.args.book.now.rows (want_again lost c.from.result ∷ []) (Some lost.row) c.short_article.result c.short_article.ensures
    (sym c.if-is_some.false ∙ c.is_some.ensures)) c.allot.ensures.exact c.allot.ensures.listed
