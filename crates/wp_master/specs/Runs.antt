-- What holds of each table that pivots by signs and ratios reach from the start table of a pool.
use Rattle.std.specs.Prelude.{ℕ, ◌+◌, ◌<◌, ◌≡◌, ◌≢◌, ◌⊎◌, List, length, ℤ, pos, ◌+ℤ◌, ◌*ℤ◌, ◌<ℤ◌}
use Rattle.wp_master.specs.Bases.{IsBasis, basic_place, total_below}
use Rattle.wp_master.specs.Minors.{AreMinors}
use Rattle.wp_master.specs.Pairs.{AreLastRow, AreNumbers, CoverOrders, FitColumns, length_of, number_at, sum_of}
use Rattle.wp_master.specs.Pivots.{IsStart, PivotRun, Table, column_place, entry_of, last_row, order_place, places}
use Rattle.wp_master.specs.Pools.{ColumnPool}

-- a row is lexicographically above 0: its first entry that isn't 0 is above 0
pub record IsAbove (table : Table) (row : ℕ) : Type 0 where
  pub at : ℕ
  pub within : at < table.width
  pub before : (j : ℕ) → j < at → entry_of table row j ≡ pos 0
  pub above : pos 0 <ℤ entry_of table row at

-- what the rows of the columns in a start table have at a place, each times a table's entry in a row at the place of
-- that column
abbrev pub gathered : ColumnPool → Table → Table → ℕ → ℕ → ℤ
gathered pool begun table row place =
    total_below (last_row pool) (λ (column : ℕ). entry_of table row (column_place column)
    *ℤ entry_of begun column place)

-- a table's rows are combinations of the start table's rows, with what they have at the places of the columns; in the
-- last one the start table's last row stands too, times the denominator
pub record AreGathered (pool : ColumnPool) (begun table : Table) : Type 0 where
  pub columns : (row place : ℕ) → row < last_row pool → place < places pool
      → entry_of table row place ≡ gathered pool begun table row place
  pub last : (place : ℕ) → place < places pool
      → entry_of table (last_row pool) place
      ≡ (table.denominator *ℤ entry_of begun (last_row pool) place) +ℤ gathered pool begun table (last_row pool) place

-- a table that so many pivots reach, with its basis
pub record IsReached (pool : ColumnPool) (made : ℕ) (table : Table) (basis : List ℕ) : Type 0 where
  pub run : PivotRun pool made table
  pub rows : table.rows ≡ last_row pool + 1
  pub width : table.width ≡ places pool
  pub denominator : pos 0 <ℤ table.denominator
  pub begun : Table
  pub start : IsStart pool begun
  pub is_basis : IsBasis pool begun table basis
  pub are_minors : AreMinors pool begun table basis
  pub above : (row : ℕ) → row < last_row pool → IsAbove table row
  pub are_gathered : AreGathered pool begun table

-- a row of a basis has a place, and a number is the first entry of that row
pub record IsBasicDual (table : Table) (basis : List ℕ) (place : ℕ) (dual : ℤ) : Type 0 where
  pub row : ℕ
  pub known : row < length basis
  pub here : basic_place basis row ≡ place
  pub first : dual ≡ entry_of table row 0

-- no row of a basis has a place, and a number is 0
pub record IsFreeDual (basis : List ℕ) (place : ℕ) (dual : ℤ) : Type 0 where
  pub apart : (row : ℕ) → row < length basis → basic_place basis row ≢ place
  pub none : dual ≡ pos 0

-- the dual of a place: the first entry of the row that has it in the basis, or 0 where no row has it
abbrev pub IsDual : Table → List ℕ → ℕ → ℤ → Type 0
IsDual table basis place dual = IsBasicDual table basis place dual ⊎ IsFreeDual basis place dual

-- the duals of the places of all orders
abbrev pub AreDuals : ColumnPool → Table → List ℕ → List ℤ → Type 0
AreDuals pool table basis duals = (order : ℕ) → order < pool.orders
    → IsDual table basis (order_place pool order) (number_at duals order)

-- a table that some number of pivots reach, with its basis
abbrev pub IsReachedAtAll : ColumnPool → Table → List ℕ → Type 0
IsReachedAtAll pool table basis = (made : ℕ) × IsReached pool made table basis

-- weights and duals that show each other best, the weights being a table's last row
pub record IsPair (pool : ColumnPool) (table : Table) (weights duals : List ℤ) (denominator : ℤ) : Type 0 where
  pub above : pos 0 <ℤ denominator
  pub are_weights : AreNumbers (last_row pool) weights
  pub are_duals : AreNumbers pool.orders duals
  pub cover : CoverOrders pool weights denominator
  pub fit : FitColumns pool duals denominator
  pub equal : sum_of pool duals ≡ length_of pool weights
  pub last : AreLastRow pool table weights denominator
