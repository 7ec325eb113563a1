-- Pairs of weights and duals over one denominator, which show each other best: the weights cover the orders, the duals
-- fit the columns, and both have one sum.
use Rattle.std.specs.List.{list_any}
use Rattle.std.specs.Prelude.{ℕ, ◌==◌, ◌<◌, ◌≡◌, Bool, if◌then◌else◌, List, length, slice_index_or, ℤ, pos, ◌*ℤ◌, ◌≤ℤ◌}
use Rattle.wp_master.specs.Bases.{total_below}
use Rattle.wp_master.specs.Pivots.{IsWithinTurns, Table, column_place, entry_of, last_row}
use Rattle.wp_master.specs.Pools.{ColumnPool, column_of}

-- whether a column holds an order
abbrev pub holds : ColumnPool → ℕ → ℕ → Bool
holds pool column order = list_any (λ (held : ℕ). held == order) (column_of pool column).batch

-- the number that a list has for a column or an order
abbrev pub number_at : List ℤ → ℕ → ℤ
number_at numbers i = slice_index_or numbers i (pos 0)

-- one number for each of so many, none of them below 0
pub record AreNumbers (many : ℕ) (numbers : List ℤ) : Type 0 where
  pub count : length numbers ≡ many
  pub not_below : (i : ℕ) → i < many → pos 0 ≤ℤ number_at numbers i

-- the sum of the weights of the columns that hold an order
abbrev pub cover_of : ColumnPool → List ℤ → ℕ → ℤ
cover_of pool weights order =
    total_below (length pool.columns) (λ (column : ℕ). if holds pool column order then number_at weights column
    else pos 0)

-- the sum of the duals of the orders that a column holds
abbrev pub load_of : ColumnPool → List ℤ → ℕ → ℤ
load_of pool duals column = total_below pool.orders (λ (order : ℕ). if holds pool column order
    then number_at duals order else pos 0)

-- the sum of the lengths of the columns, each times its weight
abbrev pub length_of : ColumnPool → List ℤ → ℤ
length_of pool weights = total_below (length pool.columns)
    (λ (column : ℕ). number_at weights column *ℤ pos (column_of pool column).length)

-- the sum of the duals
abbrev pub sum_of : ColumnPool → List ℤ → ℤ
sum_of pool duals = total_below pool.orders (number_at duals)

-- the weights over the denominator cover each order at least once
abbrev pub CoverOrders : ColumnPool → List ℤ → ℤ → Type 0
CoverOrders pool weights denominator = (order : ℕ) → order < pool.orders → denominator ≤ℤ cover_of pool weights order

-- the duals over the denominator give no column more than its length
abbrev pub FitColumns : ColumnPool → List ℤ → ℤ → Type 0
FitColumns pool duals denominator =
    (column : ℕ) → column < length pool.columns
    → load_of pool duals column ≤ℤ (denominator *ℤ pos (column_of pool column).length)

-- the weights are what a table's last row has at the places of the columns, and the denominator is the table's
pub record AreLastRow (pool : ColumnPool) (table : Table) (weights : List ℤ) (denominator : ℤ) : Type 0 where
  pub same : denominator ≡ table.denominator
  pub entries : (column : ℕ) → column < length pool.columns
      → number_at weights column ≡ entry_of table (last_row pool) (column_place column)

-- the weights and the denominator are those of a table that at most so many pivots lead to
abbrev pub AreOfRun : ColumnPool → ℕ → List ℤ → ℤ → Type 0
AreOfRun pool turns weights denominator = (table : Table) × IsWithinTurns pool turns table
    × AreLastRow pool table weights denominator
