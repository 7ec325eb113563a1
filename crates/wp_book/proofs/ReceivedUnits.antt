-- Units that a row receives.
use Rattle.std.proofs.Common.{ℕ, ◌+◌, ◌≤◌, inl, inr, List, slice_get, Some, IfSome, sym, ap, subst, ◌≡◌, ◌∙◌, arith}
use Rattle.std.proofs.lemmas.Bool.{cases_eq}
use Rattle.wp_model.proofs.Elements.{at_some}
use Rattle.wp_model.proofs.Rows.{at_place-other, at_place-same}
use Rattle.wp_model.specs.Change.{at_place, change_rows, receive_units}
use Rattle.wp_model.specs.Limits.{most_on_hand}
use Rattle.wp_model.specs.declared.row.Row.{Row}
use Rattle.wp_book.specs.Kept.{AreChained}
use Rattle.wp_book.specs.declared.room.KeptHolds.{KeptHolds}
use Rattle.wp_book.proofs.Totals.{IsRow, book_moved, nowhere_else}

-- a row of a kept book has room for units that come to it
pub record MayReceive (rows : List Row) (chains : List (List KeptHolds)) (row units : ℕ) : Type 0 where
  pub kept : AreChained rows chains
  pub room : IfSome (slice_get rows row) (λ r. r.on_hand + units ≤ most_on_hand)

receive_row : (rows : List Row) (chains : List (List KeptHolds)) (row units : ℕ) → MayReceive rows chains row units
    → (k : ℕ) (r : Row) → slice_get rows k ≡ Some r → IsRow chains k r → IsRow chains k (at_place row (receive_units units) k r)
receive_row rows chains row units may k r there is = elim (cases_eq k row) [
  | inl here ↦
      let fits = at_some _ (λ (r : Row). r.on_hand + units ≤ most_on_hand) r (ap (slice_get rows) (sym here) ∙ there) may.room in
      subst (IsRow chains k) (sym (at_place-same row k (receive_units units) r here))
      (record { balance = record { sum = omega (arith, is.balance.sum); most = fits }; held = is.held })
  | inr away ↦ subst (IsRow chains k) (sym (at_place-other row k (receive_units units) r away)) is
]

-- after a row has received units the rows and the chains keep a book
pub receive_keeps : (rows : List Row) (chains : List (List KeptHolds)) (row units : ℕ) → MayReceive rows chains row units
    → AreChained (change_rows (at_place row (receive_units units)) 0 rows) chains
receive_keeps rows chains row units may = record {
  book = book_moved _ rows chains chains may.kept.book (receive_row rows chains row units may) (λ k past. nowhere_else rows chains k may.kept.book past);
  count = may.kept.count;
  placed = may.kept.placed;
}
