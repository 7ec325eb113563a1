-- The required distances of an aisle as one pass over them sums them up.
use Rattle.std.specs.Prelude.{ℕ, ◌-◌, ◌*◌, ◌==◌, nat_lt, Bool, List, [], ◌∷◌, Option, Some, None, filter, map, max}
use Rattle.std.specs.Prelude.{if◌then◌else◌}
use Rattle.std.specs.Int.{bit_at}
use Rattle.std.specs.List.{range_with_len}
use Rattle.wp_model.specs.declared.point.Point.{Point}
use Rattle.wp_model.specs.Warehouse.{Layout}
use Rattle.wp_model.specs.Warehouse.End.{at_front, at_back}
use Rattle.wp_graph.specs.Required.{aisle_length, distance, has_point}
use Rattle.wp_graph.specs.Sites.{has_depot, site_of}
use Rattle.wp_graph.specs.declared.ways.AisleWays.{AisleWays}
use Rattle.wp_graph.specs.declared.ways.Stretch.{Stretch}

-- one more distance, behind the others
abbrev pub reach_to : Option Stretch → ℕ → Option Stretch
reach_to None distance = Some (record { first = distance; last = distance; gap = 0 })
reach_to (Some stretch) distance = Some (record {
  first = stretch.first;
  last = distance;
  gap = max stretch.gap (distance - stretch.last);
})

-- the places of which a word has the bits, the first bit standing for this place
unfoldable pub bit_places : ℕ → ℕ → List ℕ
bit_places first bits = filter (λ place. bit_at bits (place - first) == 1) (range_with_len first 64)

-- the required distance before the slots of an aisle: 0 where the depot lies there
abbrev pub front_distances : Layout → ℕ → List ℕ
front_distances layout aisle = if has_depot (site_of layout) aisle at_front then 0 ∷ [] else []

-- the required distances of its slots
abbrev pub slot_distances : Layout → List Point → ℕ → List ℕ
slot_distances layout points aisle = map (distance layout)
    (filter (has_point points aisle) (range_with_len 1 layout.slots))

-- the required distance behind its slots: the length of the aisle where the depot lies there
abbrev pub back_distances : Layout → ℕ → List ℕ
back_distances layout aisle = if has_depot (site_of layout) aisle at_back then aisle_length layout ∷ [] else []

-- the ways through an aisle of a length, by what its required distances come to, given whether the depot lies at its
-- front end and whether at its back end
abbrev pub ways_by_stretch : Bool → Bool → ℕ → Option Stretch → AisleWays
ways_by_stretch in_front behind whole None = record {
  pass = whole;
  back = None;
  front = None;
  gap = None;
  double = 2 * whole;
  skip = Some 0;
}
ways_by_stretch in_front behind whole (Some stretch) = record {
  pass = whole;
  back = if in_front then None else Some (2 * (whole - stretch.first));
  front = if behind then None else Some (2 * stretch.last);
  gap = if nat_lt stretch.first stretch.last then Some (2 * (whole - stretch.gap)) else None;
  double = 2 * whole;
  skip = None;
}
