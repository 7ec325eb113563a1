-- Tables of whole numbers over a pool of columns, and the pivots that lead from one to the next (Edmonds, 1967;
-- Bareiss, 1968).
use Rattle.std.specs.Int.{w128}
use Rattle.std.specs.Prelude.{◌*◌, ◌/◌, ◌%◌, ◌⊎◌, FitsSigned, List, slice_index_or, ◌≡◌, ◌≢◌, ℕ, suc, ◌+◌, ◌<◌, ◌≤◌, ℤ}
use Rattle.std.specs.Prelude.{pos, negsuc}
use Rattle.std.specs.Prelude.{◌-ℤ◌, ◌*ℤ◌, ◌<ℤ◌, Contains, length}
use Rattle.wp_master.specs.Pools.{ColumnPool, column_of}

-- how many rows there are, how many places in each, the entries row by row, and the denominator of all of them
pub record Table : Type 0 where
  pub rows : ℕ
  pub width : ℕ
  pub entries : List ℤ
  pub denominator : ℤ

-- the entry in a row at a place
abbrev pub entry_of : Table → ℕ → ℕ → ℤ
entry_of table row place = slice_index_or table.entries (row * table.width + place) (pos 0)

-- a table has an entry for each row and place, some place in each row, and a denominator above 0
pub record IsTable (table : Table) : Type 0 where
  pub count : length table.entries ≡ table.rows * table.width
  pub filled : 0 < table.width
  pub above : pos 0 <ℤ table.denominator

-- the number of the last row: as many rows come before it as the pool has columns
abbrev pub last_row : ColumnPool → ℕ
last_row pool = length pool.columns

-- how many places a row has: one for the length, one per column, one per order
abbrev pub places : ColumnPool → ℕ
places pool = 1 + length pool.columns + pool.orders

-- the place of a column, by its number in the order of adding
abbrev pub column_place : ℕ → ℕ
column_place column = 1 + column

-- the place of an order
abbrev pub order_place : ColumnPool → ℕ → ℕ
order_place pool order = 1 + length pool.columns + order

-- an entry of the start table. The row of a column has its length first, then 1 at its own place and 0 at those of the
-- other columns, then per order 1 where it holds the order, else 0. The last row has 0 first, then 0 at the places of
-- the columns and -1 at those of the orders
pub record IsStartEntry (pool : ColumnPool) (row place : ℕ) (entry : ℤ) : Type 0 where
  pub long : row < last_row pool → place ≡ 0 → entry ≡ pos (column_of pool row).length
  pub own : row < last_row pool → place ≡ column_place row → entry ≡ pos 1
  pub others : (column : ℕ) → row < last_row pool → column < length pool.columns → column ≢ row
      → place ≡ column_place column → entry ≡ pos 0
  pub held : (order : ℕ) → row < last_row pool → place ≡ order_place pool order
      → Contains (column_of pool row).batch order → entry ≡ pos 1
  pub unheld : (order : ℕ) → row < last_row pool → place ≡ order_place pool order
      → (Contains (column_of pool row).batch order → ⊥) → entry ≡ pos 0
  pub last_first : row ≡ last_row pool → place ≡ 0 → entry ≡ pos 0
  pub last_columns : (column : ℕ) → row ≡ last_row pool → column < length pool.columns → place ≡ column_place column
      → entry ≡ pos 0
  pub last_orders : (order : ℕ) → row ≡ last_row pool → place ≡ order_place pool order → entry ≡ negsuc 0

-- the start table: a row per column, and the last row, over 1
pub record IsStart (pool : ColumnPool) (table : Table) : Type 0 where
  pub rows : table.rows ≡ last_row pool + 1
  pub width : table.width ≡ places pool
  pub entries : (row place : ℕ) → row ≤ last_row pool → place < places pool
      → IsStartEntry pool row place (entry_of table row place)
  pub denominator : table.denominator ≡ pos 1

-- for a pivot in a row at a place, and an entry T of another row: pivot * T - (the entry of T's row at the pivot's
-- place) * (the entry of the pivot's row at T's place)
abbrev pub exchange_of : Table → ℕ → ℕ → ℕ → ℕ → ℤ
exchange_of table row place i j = (entry_of table row place *ℤ entry_of table i j) -ℤ
    (entry_of table i place *ℤ entry_of table row j)

-- the entry of the next table, for the pivot in a row at a place: the pivot's row stays, and each other entry X comes
-- from the entry T there by denominator * X = pivot * T - (the entry of T's row at the pivot's place) * (the entry of
-- the pivot's row at T's place)
pub record IsExchanged (table : Table) (row place i j : ℕ) (entry : ℤ) : Type 0 where
  pub stays : i ≡ row → entry ≡ entry_of table row j
  pub others : i ≢ row → table.denominator *ℤ entry ≡ exchange_of table row place i j

-- a pivot on an entry above 0, in a row that isn't the last and at a place that isn't the first; the pivot becomes the
-- denominator
pub record IsPivot (row place : ℕ) (before after : Table) : Type 0 where
  pub not_last : row + 1 < before.rows
  pub not_first : 1 ≤ place
  pub within : place < before.width
  pub above : pos 0 <ℤ entry_of before row place
  pub rows : after.rows ≡ before.rows
  pub width : after.width ≡ before.width
  pub entries : (i j : ℕ) → i < before.rows → j < before.width → IsExchanged before row place i j (entry_of after i j)
  pub denominator : after.denominator ≡ entry_of before row place

-- the last row over its denominator is lexicographically above that of the table before: the first place at which the
-- two differ has more
pub record LastRowRises (before after : Table) : Type 0 where
  pub row : ℕ
  pub last : before.rows ≡ row + 1
  pub place : ℕ
  pub within : place < before.width
  pub equal : (j : ℕ) → j < place → (entry_of after row j *ℤ before.denominator)
      ≡ (entry_of before row j *ℤ after.denominator)
  pub more : (entry_of before row place *ℤ after.denominator) <ℤ (entry_of after row place *ℤ before.denominator)

-- a table that so many pivots lead to from the start table, each of which makes the last row over its denominator rise
pub data PivotRun (pool : ColumnPool) : ℕ → Table → Type 0 where
  start : {table : Table} → IsStart pool table → PivotRun pool 0 table
  onward : {made row place : ℕ} {before after : Table} → PivotRun pool made before → IsPivot row place before after
      → LastRowRises before after → PivotRun pool (suc made) after

-- a table that at most so many such pivots lead to
abbrev pub IsWithinTurns : ColumnPool → ℕ → Table → Type 0
IsWithinTurns pool turns table = (made : ℕ) × (made ≤ turns) × PivotRun pool made table

-- for a pivot each exchange is a multiple of the denominator
abbrev pub AreWhole : Table → ℕ → ℕ → Type 0
AreWhole table row place = (i j : ℕ) → i < table.rows → i ≢ row → j < table.width
    → (entry : ℤ) × (table.denominator *ℤ entry ≡ exchange_of table row place i j)

-- an entry of the table
abbrev pub IsEntry : Table → ℤ → Type 0
IsEntry table x = (row : ℕ) × (place : ℕ) × (row < table.rows) × (place < table.width) × (x ≡ entry_of table row place)

-- two factors whose product leaves 128 bits: an entry of the table or twice an entry, and an entry
pub record AreWideEntries (table : Table) (left right : ℤ) : Type 0 where
  pub left_entry : IsEntry table left ⊎ ((x : ℤ) × IsEntry table x × (left ≡ pos 2 *ℤ x))
  pub right_entry : IsEntry table right
  pub leaves : FitsSigned w128 (left *ℤ right) → ⊥

-- twice one of two numbers, and the other: factors whose product leaves 128 bits
pub record IsTwofoldOf (left right twice other : ℤ) : Type 0 where
  pub factors : ((twice ≡ pos 2 *ℤ left) × (other ≡ right)) ⊎ ((twice ≡ pos 2 *ℤ right) × (other ≡ left))
  pub leaves : FitsSigned w128 (twice *ℤ other) → ⊥

-- two factors whose product leaves 128 bits: these two, or twice one of them and the other
abbrev pub AreWide : ℤ → ℤ → ℤ → ℤ → Type 0
AreWide left right one two = ((one ≡ left) × (two ≡ right) × (FitsSigned w128 (left *ℤ right) → ⊥))
    ⊎ IsTwofoldOf left right one two

-- two factors whose product leaves 128 bits: both of one of two products, or twice one of its factors and the other
abbrev pub IsWideFor : ℤ → ℤ → ℤ → ℤ → ℤ → ℤ → Type 0
IsWideFor left right other further one two = AreWide left right one two ⊎ AreWide other further one two

-- these entries, in rows of this width, are those that a start table begins with
abbrev pub AreStartEntries : ColumnPool → ℕ → List ℤ → Type 0
AreStartEntries pool width entries = (at : ℕ) → at < length entries
    → IsStartEntry pool (at / width) (at % width) (slice_index_or entries at (pos 0))
