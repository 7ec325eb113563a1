-- Minors of a start table: determinants of some of its columns, as many as it has rows (Edmonds, 1967; Bareiss, 1968).
use Rattle.std.specs.Prelude.{ℕ, zero, suc, ◌<◌, ◌≤◌, ◌≡◌, List, [], ◌∷◌, ◌++◌, set, eqb, cond, ℤ, pos, ◌*ℤ◌, ◌-ℤ◌}
use Rattle.wp_master.specs.Pivots.{Table, entry_of, last_row, places}
use Rattle.wp_master.specs.Pools.{ColumnPool}

-- columns of numbers, one number for each row
abbrev pub Columns : Type 0
Columns = List (ℕ → ℤ)

-- what a determinant is, expanded along a row, where these columns stand before the rest: each further column's entry
-- in the row, times what the columns without it give, with signs in turn
unfoldable pub expanded : (Columns → ℤ) → ℕ → Columns → Columns → ℤ
expanded without row before [] = pos 0
expanded without row before (column ∷ after)
    = (column row *ℤ without (before ++ after)) -ℤ expanded without row (before ++ column ∷ []) after

-- the determinant of columns over so many rows from a row on, which is 0 where there aren't as many columns as rows
unfoldable pub determinant : ℕ → ℕ → Columns → ℤ
determinant zero row [] = pos 1
determinant zero row (column ∷ columns) = pos 0
determinant (suc count) row columns = expanded (determinant count (suc row)) row [] columns

-- the column of a place
abbrev pub column_at : Table → ℕ → ℕ → ℤ
column_at table place row = entry_of table row place

-- the column that has 1 in one row and 0 in all others
abbrev pub unit_column : ℕ → ℕ → ℤ
unit_column own row = cond (eqb row own) (pos 1) (pos 0)

-- the columns of the places of a basis, and behind them the unit column of the last row
unfoldable pub basic_columns : ColumnPool → Table → List ℕ → Columns
basic_columns pool begun [] = unit_column (last_row pool) ∷ []
basic_columns pool begun (place ∷ basis) = column_at begun place ∷ basic_columns pool begun basis

-- the minor of columns of a start table: their determinant over all of its rows
abbrev pub minor : ColumnPool → Columns → ℤ
minor pool columns = determinant (suc (last_row pool)) 0 columns

-- A table's entries are minors of the start table that it comes from: the denominator that of the basis, and an entry
-- that of the basis in which the column of the entry's place stands in the place of the basic column of its row.
pub record AreMinors (pool : ColumnPool) (begun table : Table) (basis : List ℕ) : Type 0 where
  pub denominator : table.denominator ≡ minor pool (basic_columns pool begun basis)
  pub entries : (row place : ℕ) → row ≤ last_row pool → place < places pool
      → entry_of table row place ≡ minor pool (set (basic_columns pool begun basis) row (column_at begun place))
