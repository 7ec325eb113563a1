-- A warehouse of one block as the argument on shortness takes it: each crossing has a length of its own, and the
-- depot lies at the front or at the back end of its aisle.
use Rattle.std.specs.Prelude.{◌≡◌, ℕ, ◌+◌, ◌≤◌, ◌==◌, ◌&&◌, Bool, true, false}
use Rattle.std.proofs.Common.{refl}
use Rattle.wp_model.specs.declared.point.Point.{Point}
use Rattle.wp_model.specs.Sums.{sum_below}
use Rattle.wp_model.specs.Warehouse.{End, IsUpTo, Layout, end_of, end_place, spacing_after, step_length}
use Rattle.wp_model.specs.Warehouse.End.{at_front, at_back}

-- the numbers of aisles and of slots in each; the length from each place of an aisle to the next one behind it, and
-- from each aisle to the next; and the aisle and the end of it at which the depot lies
pub record Site : Type 0 where
  pub aisles : ℕ
  pub slots : ℕ
  pub step : ℕ → ℕ
  pub spacing : ℕ → ℕ
  pub depot : ℕ
  pub end : End

-- the place at which each aisle ends at the back
abbrev pub last_place : Site → ℕ
last_place site = site.slots + 1

-- the point at which every tour begins and ends
abbrev pub depot_of : Site → Point
depot_of site = record { aisle = site.depot; slot = end_place (last_place site) site.end }

-- a point lies in an aisle of the site, at an end of it or between
pub record IsOnSite (site : Site) (point : Point) : Type 0 where
  pub aisle : IsUpTo site.aisles point.aisle
  pub slot : point.slot ≤ last_place site

-- whether two ends are the same
abbrev pub is_end : End → End → Bool
is_end at_front at_front = true
is_end at_front at_back = false
is_end at_back at_front = false
is_end at_back at_back = true

-- what tells an end is told by the end
pub end_told : (back : Bool) → is_end (end_of back) at_back ≡ back
end_told true = refl
end_told false = refl

-- whether the depot lies at this end of this aisle
abbrev pub has_depot : Site → ℕ → End → Bool
has_depot site aisle end = is_end site.end end && (aisle == site.depot)

-- how far a place of an aisle is from the front
abbrev pub site_distance : Site → ℕ → ℕ
site_distance site place = sum_below place site.step

-- a layout as a site
abbrev pub site_of : Layout → Site
site_of layout = record {
  aisles = layout.aisles;
  slots = layout.slots;
  step = step_length layout;
  spacing = spacing_after layout;
  depot = layout.depot;
  end = layout.end;
}
