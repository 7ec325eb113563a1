-- The picks of a batch: what is held for its orders, in the order in which its tour's sheet lists them.
use Rattle.std.specs.Prelude.{◌≡◌, ◌⊎◌, ℕ, ◌<◌, ◌≤◌, ◌==◌, Bool, List, filter, Some, slice_get}
use Rattle.std.specs.List.{list_any}
use Rattle.std.specs.List.Sorted.{IsPermutation}
use Rattle.wp_model.specs.declared.row.Hold.{Hold}

-- a hold is for an order of a batch
abbrev pub is_of : List ℕ → Hold → Bool
is_of batch hold = list_any (λ order. hold.order == order) batch

-- a hold comes no later than another by row, then by order, and then by units
abbrev pub ComesNoLater : Hold → Hold → Type 0
ComesNoLater g h = (g.row < h.row) ⊎ ((g.row ≡ h.row)
    × ((g.order < h.order) ⊎ ((g.order ≡ h.order) × (g.quantity ≤ h.quantity))))

-- the picks of a batch are just the holds of its orders, each as often, by row, then by order, and then by units
pub record AreByRow (holds : List Hold) (batch : List ℕ) (picks : List Hold) : Type 0 where
  pub just : IsPermutation (filter (is_of batch) holds) picks
  pub ascend : (i j : ℕ) (g h : Hold) → i < j → slice_get picks i ≡ Some g → slice_get picks j ≡ Some h
      → ComesNoLater g h
