-- Bases of tables: for each row but the last a place whose column has the denominator in that row and 0 in all others.
use Rattle.std.specs.Prelude.{ℕ, zero, suc, ◌<◌, ◌≤◌, ◌≡◌, ◌≢◌, List, length, slice_index, ℤ, pos, ◌+ℤ◌, ◌*ℤ◌}
use Rattle.wp_master.specs.Pivots.{Table, entry_of, last_row, places}
use Rattle.wp_master.specs.Pools.{ColumnPool}

-- the sum of what the numbers below one have
unfoldable pub total_below : ℕ → (ℕ → ℤ) → ℤ
total_below zero f = pos 0
total_below (suc n) f = total_below n f +ℤ f n

-- the place of a row in a basis
abbrev pub basic_place : List ℕ → ℕ → ℕ
basic_place basis row = slice_index basis row

-- what the rows of a table but the last have at a place, each times the entry of a start table's row at the basic place
-- of that row
abbrev pub combined : ColumnPool → Table → Table → List ℕ → ℕ → ℕ → ℤ
combined pool begun table basis row place =
    total_below (last_row pool) (λ (of_row : ℕ). entry_of begun row (basic_place basis of_row)
    *ℤ entry_of table of_row place)

-- A basis of a table that comes from this start table of a pool. The start table's rows are combinations of the table's
-- rows: that of a column of those but the last, the last one of all.
pub record IsBasis (pool : ColumnPool) (begun table : Table) (basis : List ℕ) : Type 0 where
  pub count : length basis ≡ last_row pool
  pub not_first : (row : ℕ) → row < last_row pool → 1 ≤ basic_place basis row
  pub within : (row : ℕ) → row < last_row pool → basic_place basis row < places pool
  pub own : (row : ℕ) → row < last_row pool → entry_of table row (basic_place basis row) ≡ table.denominator
  pub others : (row of_row : ℕ) → row ≤ last_row pool → of_row < last_row pool → row ≢ of_row
      → entry_of table row (basic_place basis of_row) ≡ pos 0
  pub columns : (row place : ℕ) → row < last_row pool → place < places pool
      → table.denominator *ℤ entry_of begun row place ≡ combined pool begun table basis row place
  pub last : (place : ℕ) → place < places pool
      → table.denominator *ℤ entry_of begun (last_row pool) place
      ≡ entry_of table (last_row pool) place +ℤ combined pool begun table basis (last_row pool) place
