-- The choice of a pivot: a place at which the last row is below 0, and the row that comes first over its entry there.
use Rattle.std.specs.Prelude.{Option, None, Some, ◌≡◌, ℕ, ◌+◌, ◌<◌, ◌≤◌, ℤ, pos, ◌*ℤ◌, ◌<ℤ◌, ◌≤ℤ◌}
use Rattle.wp_master.specs.Pivots.{Table, entry_of}

-- a place but the first at which the last row is below 0
pub record IsRisingPlace (table : Table) (place : ℕ) : Type 0 where
  pub row : ℕ
  pub last : table.rows ≡ row + 1
  pub not_first : 1 ≤ place
  pub within : place < table.width
  pub below : entry_of table row place <ℤ pos 0

-- the last row is nowhere below 0 but at its first place
abbrev pub HasRisen : Table → Type 0
HasRisen table = (row place : ℕ) → table.rows ≡ row + 1 → 1 ≤ place → place < table.width
    → pos 0 ≤ℤ entry_of table row place

-- of the places before one, but for the first, one at which a row is below 0, or none where it is nowhere below 0
abbrev pub IsRisingBefore : Table → ℕ → ℕ → Option ℕ → Type 0
IsRisingBefore table row before None = (place : ℕ) → 1 ≤ place → place < before → pos 0 ≤ℤ entry_of table row place
IsRisingBefore table row before (Some place) = (1 ≤ place) × (place < before) × (entry_of table row place <ℤ pos 0)

-- the entry of a row times the entry of another row at a place
abbrev pub scaled_entry : Table → ℕ → ℕ → ℕ → ℕ → ℤ
scaled_entry table row j other place = entry_of table row j *ℤ entry_of table other place

-- a row over its entry at a place is lexicographically below another row over its entry there, where both entries are
-- above 0: the first place at which the two differ has less
pub record Precedes (table : Table) (row other place : ℕ) : Type 0 where
  pub at : ℕ
  pub within : at < table.width
  pub equal : (j : ℕ) → j < at → scaled_entry table row j other place ≡ scaled_entry table other j row place
  pub less : scaled_entry table row at other place <ℤ scaled_entry table other at row place

-- two rows over their entries at a place don't differ before a place
abbrev pub AgreeBefore : Table → ℕ → ℕ → ℕ → ℕ → Type 0
AgreeBefore table row other place before
    = (j : ℕ) → j < before → scaled_entry table row j other place ≡ scaled_entry table other j row place

-- of the first so many rows, one whose entry at a place is above 0, and which none of the others with an entry above 0
-- there precedes
pub record IsLeavingRow (table : Table) (place before row : ℕ) : Type 0 where
  pub known : row < before
  pub above : pos 0 <ℤ entry_of table row place
  pub first : (other : ℕ) → other < before → pos 0 <ℤ entry_of table other place → Precedes table other row place → ⊥

-- the row to leave of the first so many, or none where no entry of theirs at the place is above 0
abbrev pub IsLeaving : Table → ℕ → ℕ → Option ℕ → Type 0
IsLeaving table place before None = (row : ℕ) → row < before → pos 0 <ℤ entry_of table row place → ⊥
IsLeaving table place before (Some row) = IsLeavingRow table place before row
