use Rattle.std.proofs.Common.{◌+◌, ◌≤◌, sym, subst, List, IfSome, slice_get}
use Rattle.wp_model.specs.Book.{Book}
use Rattle.wp_model.specs.Limits.{most_on_hand}
use Rattle.wp_model.specs.declared.row.Row.{Row}
use Rattle.wp_book.specs.Kept.{AreChained}
use Rattle.wp_book.proofs.ReceivedUnits.{receive_keeps}
use Rattle.wp_book.proofs.book.StockBook.receive.Goals as goal

pub invariant_of-self : goal.invariant_of-self
invariant_of-self c =
    let rows = c.self.inside.rows in
    let chains = c.self.inside.chains.items in
    subst (λ (rows : List Row). AreChained rows chains) (sym c.receive.ensures) (receive_keeps rows chains c.args.row c.args.quantity (record {
      kept = c.self.invariant;
      room = subst (λ (book : Book). IfSome (slice_get book.rows c.args.row) (λ r. r.on_hand + c.args.quantity ≤ most_on_hand))
          (sym c.self.view_is) c.requires.room;
    }))
