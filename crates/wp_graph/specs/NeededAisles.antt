-- The aisles to which a tour must come, and the word of bits that tells them.
use Rattle.std.specs.Prelude.{◌≡◌, ℕ, ◌-◌, ◌<◌, ◌≤◌, ◌==◌, Bool, false, IsTrue, List, ◌∷◌, Option, Some, None}
use Rattle.std.specs.Int.{bit_at}
use Rattle.std.specs.List.{list_any}
use Rattle.wp_model.specs.declared.point.Point.{Point}
use Rattle.wp_model.specs.Limits.{most_aisles}
use Rattle.wp_model.specs.Warehouse.{Layout, IsUpTo, depot_point}

-- whether a point lies in an aisle
abbrev pub lies_in : ℕ → Point → Bool
lies_in aisle point = point.aisle == aisle

-- whether an aisle is needed: the depot lies in it, or a point does
unfoldable pub is_needed : Layout → List Point → ℕ → Bool
is_needed layout points aisle = list_any (lies_in aisle) (depot_point layout ∷ points)

-- no aisle between two is needed
abbrev pub NoneNeededBetween : Layout → List Point → ℕ → ℕ → Type 0
NoneNeededBetween layout points low high
    = (aisle : ℕ) → low < aisle → aisle < high → is_needed layout points aisle ≡ false

-- the last needed aisle before an aisle, or none is needed before it
abbrev pub IsLastNeededBefore : Layout → List Point → ℕ → Option ℕ → Type 0
IsLastNeededBefore layout points aisle None = NoneNeededBetween layout points 0 aisle
IsLastNeededBefore layout points aisle (Some last) =
    (1 ≤ last) × (last < aisle) × IsTrue (is_needed layout points last) × NoneNeededBetween layout points last aisle

-- a word has the bits of the needed aisles: its lowest bit stands for the last aisle that a layout may have
pub record MarksNeeded (layout : Layout) (points : List Point) (word : ℕ) : Type 0 where
  pub bits : (aisle : ℕ) → IsUpTo most_aisles aisle
      → (bit_at word (most_aisles - aisle) == 1) ≡ is_needed layout points aisle
