-- Walks from point to point, and tours: closed walks from the depot past all picks (Ratliff and Rosenthal, 1983).
use Rattle.std.specs.Prelude.{◌≡◌, ℕ, ◌+◌, ◌-◌, ◌≤◌, List, [], ◌∷◌, Some, length, slice_get, All, Contains}
use Rattle.wp_model.specs.declared.point.Point.{Point}
use Rattle.wp_model.specs.Warehouse.{Layout, IsMove, depot_point}

-- neighbours in a list of points are moves, whose lengths sum to this
abbrev pub IsWalk : Layout → List Point → ℕ → Type 0
IsWalk layout [] total = total ≡ 0
IsWalk layout (point ∷ []) total = total ≡ 0
IsWalk layout (point ∷ next ∷ points) total =
    (step : ℕ) × (rest : ℕ) × (IsMove layout point next step) × (IsWalk layout (next ∷ points) rest)
    × (total ≡ step + rest)

-- a walk of this length that begins and ends at the depot
pub record IsClosedWalk (layout : Layout) (points : List Point) (total : ℕ) : Type 0 where
  pub begins : slice_get points 0 ≡ Some (depot_point layout)
  pub ends : slice_get points (length points - 1) ≡ Some (depot_point layout)
  pub goes : IsWalk layout points total

-- a closed walk of this length on which every pick stands
pub record IsTour (layout : Layout) (picks points : List Point) (total : ℕ) : Type 0 where
  pub closed : IsClosedWalk layout points total
  pub serves : All (Contains points) picks

-- some tour of the picks has this length, and none has a smaller one
pub record IsShortest (layout : Layout) (picks : List Point) (total : ℕ) : Type 0 where
  pub some : (points : List Point) × (IsTour layout picks points total)
  pub least : (points : List Point) (other : ℕ) → IsTour layout picks points other → total ≤ other
