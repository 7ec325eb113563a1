-- Runs of aisles that aren't needed.
use Rattle.std.specs.Prelude.{◌≡◌, ℕ, ◌<◌, ◌≤◌, Option, Some, None}
use Rattle.wp_classes.specs.Choices.{Block}

-- no aisle between two is needed
abbrev pub NoneBetween : Block → ℕ → ℕ → Type 0
NoneBetween block low high = (aisle : ℕ) → low < aisle → aisle < high → (nothing : ℕ)
    × ((block.ways aisle).skip ≡ Some nothing)

-- the last needed aisle before an aisle, or none is needed before it
abbrev pub IsNextNeeded : Block → ℕ → Option ℕ → Type 0
IsNextNeeded block aisle None = NoneBetween block 0 aisle
IsNextNeeded block aisle (Some next) = (1 ≤ next) × (next < aisle) × ((block.ways next).skip ≡ None)
    × NoneBetween block next aisle

-- an aisle and a later one are needed, and none between them
pub record AreNeighbours (block : Block) (aisle later : ℕ) : Type 0 where
  pub order : aisle < later
  pub here : (block.ways aisle).skip ≡ None
  pub there : (block.ways later).skip ≡ None
  pub between : NoneBetween block aisle later
