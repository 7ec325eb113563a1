-- The required places of an aisle as one pass over them sums them up: the first, the last, and two around a largest
-- gap.
use Rattle.std.specs.Prelude.{◌≡◌, ℕ, ◌-◌, ◌⊎◌, nat_le, List, [], ◌∷◌, ◌++◌, Option, Some, None, filter, map, slice_get}
use Rattle.std.specs.Prelude.{if◌then◌else◌}
use Rattle.std.specs.List.{range_with_len}
use Rattle.wp_model.specs.declared.point.Point.{Point}
use Rattle.wp_model.specs.Warehouse.{Layout}
use Rattle.wp_graph.specs.Required.{distance, is_required, largest_gap}
use Rattle.wp_classes.specs.Parts.{AreNeighbours}
use Rattle.wp_walk.specs.declared.turns.RequiredPlaces.{RequiredPlaces}

-- one more place, behind the others
abbrev pub reach_place : Layout → Option RequiredPlaces → ℕ → Option RequiredPlaces
reach_place layout None place = Some (record { first = place; last = place; near = place; far = place })
reach_place layout (Some reached) place =
    if nat_le (distance layout reached.far - distance layout reached.near)
    (distance layout place - distance layout reached.last)
    then Some (record { first = reached.first; last = place; near = reached.last; far = place })
    else Some (record { first = reached.first; last = place; near = reached.near; far = reached.far })

-- the first and the last of some places, and, of two or more, two neighbours around a largest gap
pub record Sums (layout : Layout) (reached : RequiredPlaces) (places : List ℕ) : Type 0 where
  pub before : List ℕ
  pub ends : places ≡ before ++ reached.last ∷ []
  pub first : slice_get places 0 ≡ Some reached.first
  pub width : distance layout reached.far - distance layout reached.near ≡ largest_gap (map (distance layout) places)
  pub pair : (before ≡ []) ⊎ AreNeighbours places reached.near reached.far

-- what some places come to
abbrev pub IsReached : Layout → List ℕ → Option RequiredPlaces → Type 0
IsReached layout places None = places ≡ []
IsReached layout places (Some reached) = Sums layout reached places

-- the required places of an aisle among the first so many
abbrev pub first_required : Layout → List Point → ℕ → ℕ → List ℕ
first_required layout picks aisle n = filter (is_required layout picks aisle) (range_with_len 0 n)
