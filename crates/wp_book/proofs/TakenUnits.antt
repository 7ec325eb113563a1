-- Units that are taken of what an order holds at a row.
use Rattle.std.proofs.Common.{◌≡◌, ◌∙◌, refl, sym, ap, subst, ℕ, ◌+◌, ◌-◌, ◌≤◌, ◌%◌, ◌==◌, ◌&&◌, Bool, true, false, inl, inr, List, slice_get, Some}
use Rattle.std.proofs.Common.{if◌then◌else◌, arith, eq-eqb, length-set, ne_eqb}
use Rattle.std.proofs.lemmas.Bool.{cases_eq, cond-false, cond-true}
use Rattle.wp_model.proofs.Rows.{at_place-other, at_place-same}
use Rattle.wp_model.specs.Book.{Book, Where, held_for, is_at, is_for, is_of}
use Rattle.wp_model.specs.Change.{at_place, change_rows, take_units}
use Rattle.wp_model.specs.declared.row.Row.{Row}
use Rattle.wp_book.specs.Calls.{HasTaken}
use Rattle.wp_book.specs.Chains.{all_units, chain_units}
use Rattle.wp_book.specs.Kept.{AreChained, book_of, chain_count}
use Rattle.wp_book.specs.declared.room.KeptHolds.{KeptHolds}
use Rattle.wp_book.proofs.ReturnedUnits.{with_chain}
use Rattle.wp_book.proofs.RowChanges.{change_none}
use Rattle.wp_book.proofs.Books.{HasUnits, chain_order-le-wave, row_has}
use Rattle.wp_book.proofs.Totals.{IsRow, book_moved, chain_for, chain_place, is_for-of, nowhere_else, placed_moved, total_is, total_moved}

-- the wave's chain after units of it were taken
pub record IsTaken (rows : List Row) (chains : List (List KeptHolds)) (wave order row units : ℕ) (new : List KeptHolds) : Type 0 where
  pub kept : AreChained rows chains
  pub enough : units ≤ chain_units (is_for wave order row) (chain_for chains wave)
  pub taken : (passes : Where) → chain_units passes new + (if passes wave order row then units else 0) ≡ chain_units passes (chain_for chains wave)

-- the rows after it
abbrev pub rows_taken : List Row → ℕ → ℕ → List Row
rows_taken rows row units = change_rows (at_place row (take_units units)) 0 rows

total_taken : (rows : List Row) (chains : List (List KeptHolds)) (wave order row units : ℕ) (new : List KeptHolds) (passes : Where)
    → IsTaken rows chains wave order row units new
    → all_units passes (with_chain chains wave new) + (if passes wave order row then units else 0) ≡ all_units passes chains
total_taken rows chains wave order row units new passes take = omega (arith, total_moved rows chains wave new passes take.kept, take.taken passes)

units_passed : (b : Bool) (units : ℕ) → b ≡ true → (if b then units else 0) ≡ units
units_passed b units e = cond-true b units 0 e

units_stopped : (b : Bool) (units : ℕ) → b ≡ false → (if b then units else 0) ≡ 0
units_stopped b units e = cond-false b units 0 e

-- a row has the units that an order holds there among what is held and what is on hand, and its units fit
pub row_has_units : (rows : List Row) (chains : List (List KeptHolds)) (wave order row units : ℕ) (r : Row) → AreChained rows chains
    → units ≤ chain_units (is_for wave order row) (chain_for chains wave) → slice_get rows row ≡ Some r → HasUnits units r
row_has_units rows chains wave order row units r kept enough there =
    let has = row_has rows chains wave row r kept there in
    let within = chain_order-le-wave wave order row (chain_for chains wave) in
    record { held = omega (arith, has.held); on_hand = omega (arith, has.on_hand); fits = has.fits }

take_row : (rows : List Row) (chains : List (List KeptHolds)) (wave order row units : ℕ) (new : List KeptHolds) → IsTaken rows chains wave order row units new
    → (k : ℕ) (r : Row) → slice_get rows k ≡ Some r → IsRow chains k r → IsRow (with_chain chains wave new) k (at_place row (take_units units) k r)
take_row rows chains wave order row units new take k r there is = elim (cases_eq k row) [
  | inl here ↦
      let has = row_has_units rows chains wave order row units r take.kept take.enough (ap (slice_get rows) (sym here) ∙ there) in
      subst (IsRow (with_chain chains wave new) k) (sym (at_place-same row k (take_units units) r here))
      (record {
        balance = record { sum = omega (arith, is.balance.sum, has.held, is.held); most = omega (arith, is.balance.most) };
        held = omega (arith, is.held, total_taken rows chains wave order row units new (is_at k) take, units_passed (row == k) units (eq-eqb row k (sym here)));
      })
  | inr away ↦ subst (IsRow (with_chain chains wave new) k) (sym (at_place-other row k (take_units units) r away))
      (record {
        balance = is.balance;
        held = omega (
          arith,
          is.held,
          total_taken rows chains wave order row units new (is_at k) take,
          units_stopped (row == k) units (ne_eqb row k (λ e. away (sym e))),
        );
      })
]

-- after units were taken the rows and the chains keep a book
pub take_keeps : (rows : List Row) (chains : List (List KeptHolds)) (wave order row units : ℕ) (new : List KeptHolds)
    → IsTaken rows chains wave order row units new
    → AreChained (rows_taken rows row units) (with_chain chains wave new)
take_keeps rows chains wave order row units new take = record {
  book = book_moved _ rows chains (with_chain chains wave new) take.kept.book (take_row rows chains wave order row units new take) (λ k past.
      omega (arith, total_taken rows chains wave order row units new (is_at k) take, nowhere_else rows chains k take.kept.book past));
  count = omega (arith, length-set chains (wave % chain_count) new, take.kept.count);
  placed = placed_moved rows chains wave new take.kept (λ other elsewhere.
      omega (arith, take.taken (is_of other), take.kept.placed (wave % chain_count) other (chain_place wave) elsewhere));
}

flips : (a b : ℕ) → (a == b) ≡ (b == a)
flips a b = elim (cases_eq a b) [
  | inl same ↦ eq-eqb a b same ∙ sym (eq-eqb b a (sym same))
  | inr other ↦ ne_eqb a b other ∙ sym (ne_eqb b a (λ e. other (sym e)))
]

-- and the units are gone from what the order of the wave holds at the row, and from nothing else
pub take_does : (rows : List Row) (chains : List (List KeptHolds)) (wave order row units : ℕ) (new : List KeptHolds)
    → IsTaken rows chains wave order row units new
    → HasTaken wave order row units (book_of rows chains) (book_of (rows_taken rows row units) (with_chain chains wave new))
take_does rows chains wave order row units new take = record {
  rows = refl;
  held = λ o r.
      let P = is_for wave o r in
      let same : P wave order row ≡ ((o == order) && (r == row)) =
      ap (λ t. t && ((order == o) && (row == r))) (eq-eqb wave wave refl)
      ∙ (ap (λ t. t && (row == r)) (flips order o) ∙ ap (λ t. (o == order) && t) (flips row r)) in
      let moved = total_taken rows chains wave order row units new P take in
      let now : all_units P (with_chain chains wave new) + (if (o == order) && (r == row) then units else 0) ≡ all_units P chains =
      ap (λ t. all_units P (with_chain chains wave new) + (if t then units else 0)) (sym same) ∙ moved in
      total_is P (rows_taken rows row units) (with_chain chains wave new)
      ∙ (left_is (o == order) (r == row) _ _ units now ∙ ap (λ n. if (o == order) && (r == row) then n - units else n) (sym (total_is P rows chains)));
  others = λ w o r other.
      let P = is_for w o r in
      omega (
        arith,
        total_is P (rows_taken rows row units) (with_chain chains wave new),
        total_is P rows chains,
        total_taken rows chains wave order row units new P take,
        units_stopped (P wave order row) units (is_for-of w o r wave order row (λ e. other (sym e))),
      );
}
  where
    left_is : (a b : Bool) (new old units : ℕ) → new + (if a && b then units else 0) ≡ old → new ≡ (if a && b then old - units else old)
    left_is true true new old units e = omega arith
    left_is true false new old units e = omega arith
    left_is false b new old units e = omega arith

-- where no unit is to be taken, the book as it is has them taken
pub take_nothing : (wave order row units : ℕ) (book : Book) → units ≡ 0 → HasTaken wave order row units book book
take_nothing wave order row units book none = record {
  rows = sym (change_none (at_place row (take_units units)) book.rows (λ k r. same k r));
  held = λ o r. left_same (o == order) (r == row) (held_for book wave o r);
  others = λ w o r other. refl;
}
  where
    same : (k : ℕ) (r : Row) → at_place row (take_units units) k r ≡ r
    same k r = elim (cases_eq k row) [
      | inl here ↦
          let on_hand : r.on_hand - units ≡ r.on_hand = omega arith in
          let held : r.held - units ≡ r.held = omega arith in
          at_place-same row k (take_units units) r here ∙ rw (on_hand, held) refl
      | inr away ↦ at_place-other row k (take_units units) r away
    ]

    left_same : (a b : Bool) (n : ℕ) → n ≡ (if a && b then n - units else n)
    left_same true true n = omega arith
    left_same true false n = refl
    left_same false b n = refl
