-- All units that were held for a wave, given back.
use Rattle.std.proofs.Common.{◌≡◌, ◌≢◌, ◌∙◌, refl, sym, ap, ℕ, ◌+◌, ◌≤◌, ◌%◌, ◌==◌, ◌&&◌, not, Bool, true, false, inl, inr, List, slice_get, Some}
use Rattle.std.proofs.Common.{if◌then◌else◌, arith, eq-eqb, length-set, ne_eqb}
use Rattle.std.proofs.Math.ListN.{set}
use Rattle.std.proofs.lemmas.Bool.{cases_eq}
use Rattle.wp_model.specs.Book.{Where, but_of, hold_units_where, is_at, is_for, is_for_wave, is_of}
use Rattle.wp_model.specs.Change.{change_rows, free_held_units}
use Rattle.wp_model.specs.declared.row.Row.{Row}
use Rattle.wp_book.specs.Calls.{HasGivenBack}
use Rattle.wp_book.specs.Chains.{all_units, chain_units, node_units}
use Rattle.wp_book.specs.Kept.{AreChained, book_of, chain_count}
use Rattle.wp_book.specs.declared.room.KeptHolds.{KeptHolds}
use Rattle.wp_book.proofs.Books.{chain_at_row, row_has}
use Rattle.wp_book.proofs.HoldSums.{freed_same, sum_by-none, sum_by-same, sum_by-within}
use Rattle.wp_book.proofs.Totals.{IsOfWave, IsRow, book_moved, chain_for, chain_place, is_for-of, is_for_wave-of, nowhere_else, placed_moved, total_is}
use Rattle.wp_book.proofs.Totals.{total_moved, wave_held, wave_total}

but_most_if : (a b : Bool) (q : ℕ) → (if a && b then q else 0) ≤ (if a then q else 0)
but_most_if true true q = omega arith
but_most_if true false q = omega arith
but_most_if false b q = omega arith

but_most : (wave : ℕ) (passes : Where) (nodes : List KeptHolds) → chain_units (but_of wave passes) nodes ≤ chain_units passes nodes
but_most wave passes nodes =
    sum_by-within (node_units (but_of wave passes)) (node_units passes) nodes (λ node.
    sum_by-within (hold_units_where (but_of wave passes) node.wave) (hold_units_where passes node.wave) node.holds
    (λ hold. but_most_if (passes node.wave hold.order hold.row) (not (node.wave == wave)) hold.quantity))

but_none_if : (a b : Bool) (q : ℕ) → (a && b) ≡ false → (if a && b then q else 0) ≡ 0
but_none_if a b q e = ap (λ t. if t then q else 0) e

but_none : (wave : ℕ) (passes : Where) (nodes : List KeptHolds) → IsOfWave wave passes → chain_units (but_of wave passes) nodes ≡ 0
but_none wave passes nodes of =
    sum_by-none (node_units (but_of wave passes)) nodes (λ node.
    sum_by-none (hold_units_where (but_of wave passes) node.wave) node.holds (λ hold.
    but_none_if (passes node.wave hold.order hold.row) (not (node.wave == wave)) hold.quantity (fails node.wave hold.order hold.row)))
  where
    right_false : (a b : Bool) → b ≡ false → (a && b) ≡ false
    right_false true b e = e
    right_false false b e = refl

    left_false : (a b : Bool) → a ≡ false → (a && b) ≡ false
    left_false a b e = ap (λ t. t && b) e

    fails : (w o r : ℕ) → (passes w o r && not (w == wave)) ≡ false
    fails w o r = elim (cases_eq w wave) [
      | inl same ↦ right_false (passes w o r) (not (w == wave)) (ap not (eq-eqb w wave same))
      | inr other ↦ left_false (passes w o r) (not (w == wave)) (of w o r other)
    ]

but_same : (wave w : ℕ) (passes : Where) (nodes : List KeptHolds) → w ≢ wave → IsOfWave w passes
    → chain_units (but_of wave passes) nodes ≡ chain_units passes nodes
but_same wave w passes nodes other of =
    sum_by-same (node_units (but_of wave passes)) (node_units passes) nodes (λ node.
    sum_by-same (hold_units_where (but_of wave passes) node.wave) (hold_units_where passes node.wave) node.holds (λ hold.
    ap (λ t. if t then hold.quantity else 0) (keeps node.wave hold.order hold.row)))
  where
    with_true : (a b : Bool) → b ≡ true → (a && b) ≡ a
    with_true true b e = e
    with_true false b e = refl

    with_false : (a b : Bool) → a ≡ false → (a && b) ≡ a
    with_false true b e = absurd (cc)
    with_false false b e = refl

    keeps : (v o r : ℕ) → (passes v o r && not (v == wave)) ≡ passes v o r
    keeps v o r = elim (cases_eq v wave) [
      | inl same ↦ with_false (passes v o r) (not (v == wave)) (of v o r (λ e. other (sym e ∙ same)))
      | inr away ↦ with_true (passes v o r) (not (v == wave)) (ap not (ne_eqb v wave away))
    ]

-- the wave's chain after it has given all back
pub record IsBack (rows : List Row) (chains : List (List KeptHolds)) (wave : ℕ) (new : List KeptHolds) : Type 0 where
  pub kept : AreChained rows chains
  pub others : (passes : Where) → chain_units passes new ≡ chain_units (but_of wave passes) (chain_for chains wave)

-- the rows after it
abbrev pub rows_back : List Row → List (List KeptHolds) → ℕ → List Row
rows_back rows chains wave = change_rows (λ row. free_held_units (chain_units (is_for_wave wave row) (chain_for chains wave))) 0 rows

-- the chains after it
abbrev pub with_chain : List (List KeptHolds) → ℕ → List KeptHolds → List (List KeptHolds)
with_chain chains wave new = set chains (wave % chain_count) new

total_back : (rows : List Row) (chains : List (List KeptHolds)) (wave : ℕ) (new : List KeptHolds) (passes : Where) → IsBack rows chains wave new
    → all_units passes (with_chain chains wave new) + chain_units passes (chain_for chains wave) ≡ all_units passes chains + chain_units (but_of wave passes)
    (chain_for chains wave)
total_back rows chains wave new passes back = omega (arith, total_moved rows chains wave new passes back.kept, back.others passes)

back_row : (rows : List Row) (chains : List (List KeptHolds)) (wave : ℕ) (new : List KeptHolds) → IsBack rows chains wave new
    → (k : ℕ) (r : Row) → slice_get rows k ≡ Some r → IsRow chains k r
    → IsRow (with_chain chains wave new) k (free_held_units (chain_units (is_for_wave wave k) (chain_for chains wave)) r)
back_row rows chains wave new back k r there is =
    let has = row_has rows chains wave k r back.kept there in
    record {
      balance = record { sum = omega (arith, is.balance.sum, has.held); most = is.balance.most };
      held = omega (arith, is.held, has.held, total_back rows chains wave new (is_at k) back, chain_at_row wave k (chain_for chains wave));
    }

-- after a wave has given all back, the rows and the chains keep a book
pub back_keeps : (rows : List Row) (chains : List (List KeptHolds)) (wave : ℕ) (new : List KeptHolds) → IsBack rows chains wave new
    → AreChained (rows_back rows chains wave) (with_chain chains wave new)
back_keeps rows chains wave new back = record {
  book = book_moved _ rows chains (with_chain chains wave new) back.kept.book (back_row rows chains wave new back) (λ k past.
      omega (
        arith,
        total_back rows chains wave new (is_at k) back,
        nowhere_else rows chains k back.kept.book past,
        but_most wave (is_at k) (chain_for chains wave),
      ));
  count = omega (arith, length-set chains (wave % chain_count) new, back.kept.count);
  placed = placed_moved rows chains wave new back.kept (λ other elsewhere.
      omega (
        arith,
        back.others (is_of other),
        but_most wave (is_of other) (chain_for chains wave),
        back.kept.placed (wave % chain_count) other (chain_place wave) elsewhere,
      ));
}

-- and all that was held for the wave is free again, while other waves hold what they held
pub back_does : (rows : List Row) (chains : List (List KeptHolds)) (wave : ℕ) (new : List KeptHolds) → IsBack rows chains wave new
    → HasGivenBack wave (book_of rows chains) (book_of (rows_back rows chains wave) (with_chain chains wave new))
back_does rows chains wave new back = record {
  rows = freed_same _ _ rows (λ row. sym (wave_held rows chains wave (is_for_wave wave row) back.kept (is_for_wave-of wave row)));
  held = λ order row.
      let P = is_for wave order row in
      omega (
        arith,
        total_is P (rows_back rows chains wave) (with_chain chains wave new),
        total_back rows chains wave new P back,
        wave_total rows chains wave P back.kept (is_for-of wave order row),
        but_none wave P (chain_for chains wave) (is_for-of wave order row),
      );
  others = λ w order row other.
      let P = is_for w order row in
      omega (
        arith,
        total_is P (rows_back rows chains wave) (with_chain chains wave new),
        total_is P rows chains,
        total_back rows chains wave new P back,
        but_same wave w P (chain_for chains wave) other (is_for-of w order row),
      );
}
