use Rattle.std.proofs.Common.{sym, subst, List, map}
use Rattle.wp_model.specs.State.{opening_row}
use Rattle.wp_model.specs.declared.row.Row.{Row}
use Rattle.wp_book.specs.Kept.{AreChained}
use Rattle.wp_book.specs.declared.room.KeptHolds.{KeptHolds}
use Rattle.wp_book.proofs.FreeBook.{opens}
use Rattle.wp_book.proofs.book.StockBook.open.Goals as goal

pub invariant_of-result : goal.invariant_of-result
invariant_of-result c =
    let stock = c.args.stock.now in
    subst (λ (rows : List Row). AreChained rows c.in_ok-chains.chains.items) (sym c.in_ok-rows.ensures.rows)
    (subst (λ (chains : List (List KeptHolds)). AreChained (map opening_row stock.rows) chains) (sym c.in_ok-chains.ensures)
    (opens stock c.«open».ensures.read.rows))
