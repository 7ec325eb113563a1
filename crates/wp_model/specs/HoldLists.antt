-- Lists of holds by order and then by row.
use Rattle.std.specs.Prelude.{◌≡◌, ◌⊎◌, ⊤, ℕ, ◌<◌, List, [], ◌∷◌}
use Rattle.wp_model.specs.declared.row.Hold.{Hold}

-- what holds of each hold of a list
abbrev pub Each : (Hold → Type 0) → List Hold → Type 0
Each P [] = ⊤
Each P (h ∷ hs) = P h × Each P hs

-- a hold stands before another
abbrev pub IsBefore : Hold → Hold → Type 0
IsBefore g h = (g.order < h.order) ⊎ ((g.order ≡ h.order) × (g.row < h.row))

-- each hold stands before all later ones
abbrev pub Rises : List Hold → Type 0
Rises [] = ⊤
Rises (h ∷ hs) = Each (IsBefore h) hs × Rises hs

-- a hold is of some units
abbrev pub IsSome : Hold → Type 0
IsSome hold = 0 < hold.quantity

-- a hold is of some units, for one of the first orders, at one of the first rows
abbrev pub IsHoldWithin : ℕ → ℕ → Hold → Type 0
IsHoldWithin orders rows hold = (hold.order < orders) × (hold.row < rows) × (0 < hold.quantity)
