-- Tables that pivots by signs and ratios reach.
use Rattle.std.proofs.Common.{◌≡◌, ℕ, suc, ◌+◌, ◌<◌, ℤ, pos, ◌<ℤ◌, List, length, set, slice_index, Option, None, Some, IsSome, arith, rules, sym, subst, ◌∙◌}
use Rattle.std.proofs.lemmas.Int.{ints}
use Rattle.wp_master.proofs.Above.{above_stays, last_row_rises}
use Rattle.wp_master.proofs.Bases.{basis_stays}
use Rattle.wp_master.proofs.Covered.{some_row_leaves}
use Rattle.wp_master.proofs.Gathered.{gathered_stays}
use Rattle.wp_master.proofs.Minors.{minors_are_whole, minors_stay, start_has_minors}
use Rattle.wp_master.proofs.Starts.{start_has_basis, start_is_above, start_is_gathered}
use Rattle.wp_master.specs.Choices.{IsLeaving, IsLeavingRow, IsRisingPlace}
use Rattle.wp_master.specs.Pivots.{AreWhole, IsPivot, IsStart, PivotRun, Table, column_place, entry_of, last_row}
use Rattle.wp_master.specs.Pivots.PivotRun.{start, onward}
use Rattle.wp_master.specs.Pools.{AreCovered, ColumnPool}
use Rattle.wp_master.specs.Runs.{IsReached, IsReachedAtAll}

above_one : (d : ℤ) → d ≡ pos 1 → pos 0 <ℤ d
above_one d e = omega (arith, ints, e)

-- the start table is reached by no pivot
pub start_is_reached : (pool : ColumnPool) (table : Table) (basis : List ℕ) → IsStart pool table → length basis ≡ last_row pool
    → ((row : ℕ) → row < last_row pool → slice_index basis row ≡ column_place row) → IsReached pool 0 table basis
start_is_reached pool table basis is count each = record {
  run = start is;
  rows = is.rows;
  width = is.width;
  denominator = above_one table.denominator is.denominator;
  begun = table;
  start = is;
  is_basis = start_has_basis pool table basis is count each;
  are_minors = start_has_minors basis is count each;
  above = λ row low. start_is_above pool table row is low;
  are_gathered = start_is_gathered pool table is;
}

-- each exchange of a pivot on a reached table is a multiple of the denominator
pub reached_is_whole : (pool : ColumnPool) (table : Table) (basis : List ℕ) (row place : ℕ) → IsReachedAtAll pool table basis → IsRisingPlace table place
    → IsLeavingRow table place (last_row pool) row → AreWhole table row place
reached_is_whole pool table basis row place (made, is) rising leaving =
    minors_are_whole is.are_minors is.is_basis is.rows is.width row place leaving.known (omega (arith, rising.within, is.width))

below_in_last : (pool : ColumnPool) (table : Table) (place : ℕ) → table.rows ≡ last_row pool + 1 → IsRisingPlace table place
    → entry_of table (last_row pool) place <ℤ pos 0
below_in_last pool table place rows rising =
    let same : rising.row ≡ last_row pool = omega (arith, rising.last, rows) in
    subst (λ (r : ℕ). entry_of table r place <ℤ pos 0) same rising.below

one_more : (n : ℕ) → suc n ≡ n + 1
one_more n = omega arith

-- a pivot at a rising place in the row that leaves reaches the next table
pub next_is_reached : (pool : ColumnPool) (made : ℕ) (before after : Table) (basis : List ℕ) (row place : ℕ) → IsReached pool made before basis
    → IsRisingPlace before place → IsLeavingRow before place (last_row pool) row → IsPivot row place before after
    → IsReached pool (made + 1) after (set basis row place)
next_is_reached pool made before after basis row place is rising leaving pivot = record {
  run = subst (λ (n : ℕ). PivotRun pool n after) (one_more made) (onward is.run pivot (last_row_rises pool before after row place is.rows pivot leaving.known
      (below_in_last pool before place is.rows rising) (is.above row leaving.known)));
  rows = pivot.rows ∙ is.rows;
  width = pivot.width ∙ is.width;
  denominator = subst (λ (x : ℤ). pos 0 <ℤ x) (sym pivot.denominator) pivot.above;
  begun = is.begun;
  start = is.start;
  is_basis = basis_stays pool is.begun before after basis row place is.rows is.width is.denominator is.is_basis pivot;
  are_minors = minors_stay is.are_minors is.is_basis is.denominator is.rows is.width pivot;
  above = above_stays pool is.begun before after basis row place is.rows is.width is.denominator is.is_basis pivot leaving is.above;
  are_gathered = gathered_stays pool is.begun before after row place is.rows is.width is.denominator pivot is.are_gathered;
}

-- where each order is held, a row leaves
pub row_is_found : (pool : ColumnPool) (table : Table) (basis : List ℕ) (place before : ℕ) (best : Option ℕ) → IsReachedAtAll pool table basis
    → AreCovered pool pool.orders → IsRisingPlace table place → before ≡ last_row pool → IsLeaving table place before best → IsSome best
row_is_found pool table basis place before None is covered rising all leaving =
    absurd (some_row_leaves pool is.0 table basis place is.1 covered rising.not_first rising.within
    (subst (λ (n : ℕ). IsLeaving table place n None) all leaving))
row_is_found pool table basis place before (Some row) is covered rising all leaving = search rules

-- the row that was found leaves
pub found_row_leaves : (pool : ColumnPool) (table : Table) (place before row : ℕ) (best : Option ℕ) → before ≡ last_row pool → best ≡ Some row
    → IsLeaving table place before best → IsLeavingRow table place (last_row pool) row
found_row_leaves pool table place before row best all found leaving =
    subst (λ (n : ℕ). IsLeavingRow table place n row) all (subst (IsLeaving table place before) found leaving)
