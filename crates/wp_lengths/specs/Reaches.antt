-- What is known while the orders are chosen that make up a reach, the largest dual first.
use Rattle.std.specs.Prelude.{◌≡◌, ℕ, ◌<◌, ◌≤◌, ◌⊎◌, List, Option, Some, None, All, Contains, length, slice_index}
use Rattle.std.specs.List.Sorted.{IsStrictlyIncreasing}
use Rattle.wp_pairs.specs.Permitted.{Pairing}
use Rattle.wp_lengths.specs.Duals.{duals_of}
use Rattle.wp_lengths.specs.Visits.{IsLater}

-- orders of later items, at most so many, of which no others have more in duals
pub record HaveMost (pairing : Pairing) (duals : List ℕ) (from count : ℕ) (taken : List ℕ) : Type 0 where
  pub ascending : IsStrictlyIncreasing taken
  pub fits : length taken ≤ count
  pub later : All (IsLater pairing from) taken
  pub most : (orders : List ℕ) → IsStrictlyIncreasing orders → length orders ≤ count → All (IsLater pairing from) orders
      → duals_of duals orders ≤ duals_of duals taken

-- an order of a later item that isn't taken, whose dual is largest among all such below an end
pub record IsBestFurther (pairing : Pairing) (duals taken : List ℕ) (from end order : ℕ) : Type 0 where
  pub later : IsLater pairing from order
  pub new : Contains taken order → ⊥
  pub best : (other : ℕ) → other < end → IsLater pairing from other → (Contains taken other → ⊥)
      → slice_index duals other ≤ slice_index duals order

-- the best order below an end; there is none where all are taken
abbrev pub IsBestBelow : Pairing → List ℕ → List ℕ → ℕ → ℕ → Option ℕ → Type 0
IsBestBelow pairing duals taken from end None
    = (other : ℕ) → other < end → IsLater pairing from other → Contains taken other
IsBestBelow pairing duals taken from end (Some order) = IsBestFurther pairing duals taken from end order

-- the one of two orders that has the larger dual
pub record IsLargerOf (duals : List ℕ) (first second larger : ℕ) : Type 0 where
  pub either : (larger ≡ first) ⊎ (larger ≡ second)
  pub first_within : slice_index duals first ≤ slice_index duals larger
  pub second_within : slice_index duals second ≤ slice_index duals larger
