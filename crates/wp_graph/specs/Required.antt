-- What a tour must pass in an aisle, and the lengths of the six ways through it.
use Rattle.std.specs.Prelude.{ℕ, ◌+◌, ◌-◌, ◌<◌, ◌==◌, ◌&&◌, Bool, List, [], ◌∷◌, filter, map, max}
use Rattle.std.specs.List.{list_any, range_with_len}
use Rattle.wp_model.specs.declared.point.Point.{Point}
use Rattle.wp_model.specs.Sums.{sum_below}
use Rattle.wp_model.specs.Warehouse.{Layout, back_end, depot_point, step_length}
use Rattle.wp_graph.specs.Sites.{Site, depot_of, site_of}

-- how far a place of an aisle is from the front
abbrev pub distance : Layout → ℕ → ℕ
distance layout place = sum_below place (step_length layout)

-- the length of an aisle from end to end
abbrev pub aisle_length : Layout → ℕ
aisle_length layout = distance layout (back_end layout)

-- whether a point is this place of this aisle
abbrev pub is_at : ℕ → ℕ → Point → Bool
is_at aisle place point = (point.aisle == aisle) && (point.slot == place)

-- whether a point of the list is this place of this aisle
unfoldable pub has_point : List Point → ℕ → ℕ → Bool
has_point points aisle place = list_any (is_at aisle place) points

-- the places of an aisle of a site that a tour must pass, from the front on: where the depot lies, and what is picked
unfoldable pub site_places : Site → List Point → ℕ → List ℕ
site_places site picks aisle = filter (has_point (depot_of site ∷ picks) aisle) (range_with_len 0 (site.slots + 2))

-- whether a tour must pass a place of an aisle of a layout
abbrev pub is_required : Layout → List Point → ℕ → ℕ → Bool
is_required layout picks aisle place = has_point (depot_point layout ∷ picks) aisle place

-- the places of an aisle of a layout that a tour must pass
abbrev pub required_places : Layout → List Point → ℕ → List ℕ
required_places layout picks aisle = site_places (site_of layout) picks aisle

-- how far they are from the front
abbrev pub required_distances : Layout → List Point → ℕ → List ℕ
required_distances layout picks aisle = map (distance layout) (required_places layout picks aisle)

-- the greatest difference of neighbours
abbrev pub largest_gap : List ℕ → ℕ
largest_gap [] = 0
largest_gap (near ∷ []) = 0
largest_gap (near ∷ next ∷ far) = max (next - near) (largest_gap (next ∷ far))

-- each distance is less than the next
abbrev pub IsAscending : List ℕ → Type 0
IsAscending [] = Unit {0}
IsAscending (near ∷ []) = Unit {0}
IsAscending (near ∷ next ∷ far) = (near < next) × IsAscending (next ∷ far)
