-- The lengths of the six ways through an aisle.
use Rattle.std.specs.Prelude.{ℕ, ◌-◌, ◌*◌, ◌≤◌, ◌==◌, nat_le, Bool, List, Some, None, IfSome, option_map, length, map}
use Rattle.std.specs.Prelude.{slice_get, if◌then◌else◌}
use Rattle.wp_model.specs.declared.point.Point.{Point}
use Rattle.wp_model.specs.Warehouse.{End, Layout}
use Rattle.wp_graph.specs.declared.ways.AisleWays.{AisleWays}
use Rattle.wp_graph.specs.Required.{largest_gap, site_places}
use Rattle.wp_graph.specs.Sites.{Site, has_depot, last_place, site_distance, site_of}
use Rattle.wp_model.specs.Warehouse.End.{at_front, at_back}

-- The ways through an aisle of a length, given at which end the depot lies, if it lies in this aisle, and the
-- required distances from the front on, those of its ends among them:
-- one pass; from the back to the nearest and back, not where the depot lies in front; from the front to the farthest
-- and back, not where the depot lies at the back; from both ends, leaving the largest gap; two passes; not at all
abbrev pub ways_with : (End → Bool) → ℕ → List ℕ → AisleWays
ways_with depot whole distances = record {
  pass = whole;
  back = if depot at_front then None else option_map (λ nearest. 2 * (whole - nearest)) (slice_get distances 0);
  front = if depot at_back then None else option_map (λ farthest. 2 * farthest)
      (slice_get distances (length distances - 1));
  gap = if nat_le 2 (length distances) then Some (2 * (whole - largest_gap distances)) else None;
  double = 2 * whole;
  skip = if length distances == 0 then Some 0 else None;
}

-- each way through an aisle is at most so long
pub record AreAtMost (most : ℕ) (ways : AisleWays) : Type 0 where
  pub pass : ways.pass ≤ most
  pub back : IfSome ways.back (λ t. t ≤ most)
  pub front : IfSome ways.front (λ t. t ≤ most)
  pub gap : IfSome ways.gap (λ t. t ≤ most)
  pub double : ways.double ≤ most
  pub skip : IfSome ways.skip (λ t. t ≤ most)

-- the ways through an aisle of a site with these picks
unfoldable pub site_ways : Site → List Point → ℕ → AisleWays
site_ways site picks aisle = ways_with (has_depot site aisle) (site_distance site (last_place site))
    (map (site_distance site) (site_places site picks aisle))

-- the ways through an aisle of a layout with these picks
abbrev pub ways_of : Layout → List Point → ℕ → AisleWays
ways_of layout picks aisle = site_ways (site_of layout) picks aisle
