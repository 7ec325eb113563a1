-- Tables in which a pivot has exchanged some entries already, and the others not yet.
use Rattle.std.specs.Prelude.{ℕ, ◌<◌, ◌≤◌, ◌≡◌, ◌≢◌, ℤ, pos, ◌*ℤ◌, ◌-ℤ◌, ◌<ℤ◌, length, slice_index}
use Rattle.wp_master.specs.Pivots.{IsWideFor, Table, entry_of, exchange_of}
use Rattle.wp_master.specs.declared.filled.Filled.{Filled}
use Rattle.wp_master.specs.declared.grid.Factors.{Factors}

-- two tables have as many rows and places, and one denominator
pub record HaveOneShape (before after : Table) : Type 0 where
  pub rows : after.rows ≡ before.rows
  pub width : after.width ≡ before.width
  pub denominator : after.denominator ≡ before.denominator

-- a table in which one entry was put
pub record IsPut (before : Table) (row place : ℕ) (entry : ℤ) (after : Table) : Type 0 where
  pub shape : HaveOneShape before after
  pub own : entry_of after row place ≡ entry
  pub other_rows : (i j : ℕ) → j < before.width → i ≢ row → entry_of after i j ≡ entry_of before i j
  pub other_places : (j : ℕ) → j < before.width → j ≢ place → entry_of after row j ≡ entry_of before row j

-- from a place on a row has 0 at all places before another
abbrev pub IsClear : Table → ℕ → ℕ → ℕ → Type 0
IsClear table row from next = (j : ℕ) → from ≤ j → j < next → j < table.width → entry_of table row j ≡ pos 0

-- from each place that is listed on, a row has 0 at all places before the one that is listed for it
abbrev pub AreFilled : Table → ℕ → Filled → Type 0
AreFilled table row filled = (from : ℕ) → from < length filled.nexts
    → IsClear table row from (slice_index filled.nexts from)

-- what an entry of a row is exchanged to, times the denominator, for a pivot and the entry of the row at the pivot's
-- place
abbrev pub exchange_by : ℤ → ℤ → Table → ℕ → ℕ → ℕ → ℤ
exchange_by pivot beside table row i j = (pivot *ℤ entry_of table i j) -ℤ (beside *ℤ entry_of table row j)

-- what the entries of a row are exchanged by, for a pivot in another row
pub record AreFactors (table : Table) (row i : ℕ) (by : Factors) : Type 0 where
  pub pivot : by.pivot ≡ entry_of table row by.place
  pub beside : by.beside ≡ entry_of table i by.place
  pub denominator : by.over.denominator ≡ table.denominator
  pub above : pos 0 <ℤ by.over.denominator

-- a table in which one entry of a row is exchanged
pub record IsEntryExchanged (before : Table) (by : Factors) (row i j : ℕ) (after : Table) : Type 0 where
  pub entry : ℤ
  pub put : IsPut before i j entry after
  pub is : by.over.denominator *ℤ entry ≡ exchange_by by.pivot by.beside before row i j

-- for a pivot each exchange of a row is a multiple of the denominator
abbrev pub IsRowWhole : Table → ℕ → ℕ → ℕ → Type 0
IsRowWhole table row place i = (j : ℕ) → j < table.width → (entry : ℤ)
    × (table.denominator *ℤ entry ≡ exchange_of table row place i j)

-- two factors are too wide for the exchange of an entry of a row
abbrev pub IsRowWide : Table → ℕ → ℕ → ℕ → ℤ → ℤ → Type 0
IsRowWide table row place i left right = (j : ℕ) × (j < table.width)
    × IsWideFor (entry_of table row place) (entry_of table i j) (entry_of table i place)
    (entry_of table row j) left right

-- a table in which a row's entries before a place are exchanged, and all others are as before
pub record IsRowExchanged (before after : Table) (row place i count : ℕ) : Type 0 where
  pub shape : HaveOneShape before after
  pub done : (j : ℕ) → j < count → j < before.width
      → before.denominator *ℤ entry_of after i j ≡ exchange_of before row place i j
  pub later : (j : ℕ) → count ≤ j → j < before.width → entry_of after i j ≡ entry_of before i j
  pub others : (k j : ℕ) → j < before.width → k ≢ i → entry_of after k j ≡ entry_of before k j

-- a table in which the rows before one are exchanged but for the pivot's, and all others are as before
pub record AreExchanged (before after : Table) (row place count : ℕ) : Type 0 where
  pub shape : HaveOneShape before after
  pub done : (i j : ℕ) → i < count → i < before.rows → i ≢ row → j < before.width
      → before.denominator *ℤ entry_of after i j ≡ exchange_of before row place i j
  pub own : (j : ℕ) → j < before.width → entry_of after row j ≡ entry_of before row j
  pub later : (i j : ℕ) → count ≤ i → i < before.rows → j < before.width → entry_of after i j ≡ entry_of before i j
