-- Tables of which unit columns aren't stored: each place has the spot at which its column is.
use Rattle.std.specs.Prelude.{ℕ, ◌+◌, ◌*◌, ◌/◌, ◌%◌, ◌<◌, ◌≡◌, ◌≢◌, List, length, map, slice_index_or, cond, eqb, ℤ}
use Rattle.std.specs.Prelude.{pos}
use Rattle.std.specs.List.{range_with_len}
use Rattle.wp_master.specs.Exchanges.{HaveOneShape}
use Rattle.wp_master.specs.Pivots.{IsStartEntry, Table, column_place, entry_of, order_place}
use Rattle.wp_master.specs.Pools.{ColumnPool}
use Rattle.wp_master.specs.declared.spot.Spot.{Spot}
use Rattle.wp_master.specs.declared.spot.Spot.TheVariants.{Stored, Basic}

-- the entry in a row of the unit column of a row: the denominator in its own row, 0 in all others
abbrev pub unit_entry : ℤ → ℕ → ℕ → ℤ
unit_entry denominator own row = cond (eqb row own) denominator (pos 0)

-- the entry in a row of the column at a spot
abbrev pub entry_at : Table → ℕ → Spot → ℤ
entry_at stored row (Stored slot) = entry_of stored row slot
entry_at stored row (Basic own) = unit_entry stored.denominator own row

-- the spot of a place
abbrev pub spot_of : List Spot → ℕ → Spot
spot_of spots place = slice_index_or spots place (Stored 0)

-- the entries that stored columns show, row by row
unfoldable pub shown_entries : Table → List Spot → List ℤ
shown_entries stored spots = map (λ (at : ℕ). entry_at stored (at / length spots) (spot_of spots (at % length spots)))
    (range_with_len 0 (stored.rows * length spots))

-- the table that stored columns show, with a place for each spot
abbrev pub shown : Table → List Spot → Table
shown stored spots =
    record {
      rows = stored.rows;
      width = length spots;
      entries = shown_entries stored
          spots;
      denominator = stored.denominator;
    }

-- The spots of a table, of so many rows over a grid of so many slots: each slot but a spare one is that of one place,
-- and each row but the last has its unit column at one place.
pub record AreSpots (rows slots : ℕ) (spots : List Spot) (spare : ℕ) : Type 0 where
  pub spare_known : spare < slots
  pub filled : 0 < length spots
  pub first : spot_of spots 0 ≡ Stored 0
  pub stored_known : (place slot : ℕ) → place < length spots → spot_of spots place ≡ Stored slot
      → (slot < slots) × (slot ≢ spare)
  pub basic_known : (place row : ℕ) → place < length spots → spot_of spots place ≡ Basic row → row + 1 < rows
  pub distinct : (place other : ℕ) → place < length spots → other < length spots
      → spot_of spots place ≡ spot_of spots other → place ≡ other
  pub each_slot : (slot : ℕ) → slot < slots → slot ≢ spare
      → (place : ℕ) × (place < length spots) × (spot_of spots place ≡ Stored slot)
  pub each_row : (row : ℕ) → row + 1 < rows → (place : ℕ) × (place < length spots) × (spot_of spots place ≡ Basic row)

-- a table in which the unit column of a row is laid at a place, in the rows before one
pub record IsLaid (before : Table) (place own count : ℕ) (after : Table) : Type 0 where
  pub shape : HaveOneShape before after
  pub done : (row : ℕ) → row < count → row < before.rows
      → entry_of after row place ≡ unit_entry before.denominator own row
  pub others : (row j : ℕ) → j < before.width → j ≢ place → entry_of after row j ≡ entry_of before row j

-- where two places have exchanged what they are: a place becomes basic in a row, and the one that was gets a slot
pub record AreMoved (spots : List Spot) (row place leaving spare : ℕ) (after : List Spot) : Type 0 where
  pub count : length after ≡ length spots
  pub comes : spot_of after place ≡ Basic row
  pub leaves : spot_of after leaving ≡ Stored spare
  pub others : (other : ℕ) → other ≢ place → other ≢ leaving → spot_of after other ≡ spot_of spots other

-- no place has the unit column of a row
abbrev pub IsNowhere : List Spot → ℕ → ℕ → Type 0
IsNowhere spots row before = (place : ℕ) → place < before → spot_of spots place ≢ Basic row

-- the spot of a place in the start table: the columns' places are basic, and the others are stored in their order
pub record IsStartSpot (pool : ColumnPool) (place : ℕ) (spot : Spot) : Type 0 where
  pub first : place ≡ 0 → spot ≡ Stored 0
  pub columns : (column : ℕ) → column < length pool.columns → place ≡ column_place column → spot ≡ Basic column
  pub orders : (order : ℕ) → order < pool.orders → place ≡ order_place pool order → spot ≡ Stored (order + 1)

-- the spots of the start table, before a place
abbrev pub AreStartSpots : ColumnPool → List Spot → Type 0
AreStartSpots pool spots = (place : ℕ) → place < length spots → IsStartSpot pool place (spot_of spots place)

-- an entry that the start table stores: at the first slot that of the first place, then those of the orders' places
pub record IsStoredStart (pool : ColumnPool) (row slot : ℕ) (entry : ℤ) : Type 0 where
  pub first : slot ≡ 0 → IsStartEntry pool row 0 entry
  pub orders : (order : ℕ) → order < pool.orders → slot ≡ order + 1
      → IsStartEntry pool row (order_place pool order) entry

-- these entries, in rows of this width, are those that the start table stores
abbrev pub AreStoredStarts : ColumnPool → ℕ → List ℤ → Type 0
AreStoredStarts pool width entries = (at : ℕ) → at < length entries
    → IsStoredStart pool (at / width) (at % width) (slice_index_or entries at (pos 0))
