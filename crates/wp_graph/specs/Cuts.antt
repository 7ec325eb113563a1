-- An aisle of a tour with a piece that isn't walked: where its ways turn, and which of them apply.
use Rattle.std.specs.Prelude.{◌≡◌, ℕ, ◌+◌, ◌-◌, ◌*◌, ◌<◌, ◌≤◌, List, [], Some, ◌⊎◌}
use Rattle.wp_model.specs.declared.point.Point.{Point}
use Rattle.wp_graph.specs.declared.ways.AisleWays.{AisleWays}
use Rattle.wp_graph.specs.AisleLengths.{site_ways}
use Rattle.wp_graph.specs.Copies.{Copies, aisle_walked}
use Rattle.wp_graph.specs.Members.{Among}
use Rattle.wp_graph.specs.Required.{site_places}
use Rattle.wp_graph.specs.Sites.{Site, last_place, site_distance}

-- some place is at most this
abbrev pub HasUpTo : List ℕ → ℕ → Type 0
HasUpTo places z = (x : ℕ) × Among places x × (x ≤ z)

-- some place is beyond this
abbrev pub HasBeyond : List ℕ → ℕ → Type 0
HasBeyond places y = (x : ℕ) × Among places x × (y < x)

-- where a way of this length turns in an aisle with two gaps: it goes from the front end to a place and back, and
-- from the back end to another and back. It passes each required place, and leaves an end only for one on its side of
-- the gaps.
pub record Turning (d : ℕ → ℕ) (b : ℕ) (places : List ℕ) (z y t : ℕ) : Type 0 where
  pub near : ℕ
  pub far : ℕ
  pub ordered : near ≤ far
  pub within : far ≤ b
  pub passed : (r : ℕ) → Among places r → ((r ≤ near) × HasUpTo places z) ⊎ ((far ≤ r) × HasBeyond places y)
  pub near_used : 0 < near → HasUpTo places z
  pub far_used : far < b → HasBeyond places y
  pub length_is : t ≡ 2 * d near + 2 * (d b - d far)

-- which ways apply where nothing is required between two gaps, by where anything is
pub data IsCut (ways : AisleWays) (d : ℕ → ℕ) (b : ℕ) (places : List ℕ) (z y most : ℕ) : Type 0 where
  skips : (places ≡ []) → ways.skip ≡ Some 0 → Turning d b places z y 0 → IsCut ways d b places z y most
  fronts : (t x : ℕ) → ways.front ≡ Some t → t ≤ most → Among places x → x ≤ z → ((r : ℕ) → Among places r → r ≤ z)
      → Turning d b places z y t
      → IsCut ways d b places z y most
  backs : (t x : ℕ) → ways.back ≡ Some t → t ≤ most → Among places x → y < x → ((r : ℕ) → Among places r → y < r)
      → Turning d b places z y t
      → IsCut ways d b places z y most
  gaps : (t x r : ℕ) → ways.gap ≡ Some t → t ≤ most → Among places x → x ≤ z → Among places r → y < r
      → Turning d b places z y t
      → IsCut ways d b places z y most

-- an aisle with a piece that isn't walked
pub record HasCut (site : Site) (picks : List Point) (copies : Copies) (aisle : ℕ) : Type 0 where
  pub gap : ℕ
  pub beyond : ℕ
  pub ordered : gap ≤ beyond
  pub within : beyond < last_place site
  pub none : copies.deep aisle gap ≡ 0
  pub none_beyond : copies.deep aisle beyond ≡ 0
  pub most : ℕ
  pub cut : IsCut (site_ways site picks aisle) (site_distance site) (last_place site)
      (site_places site picks aisle) gap beyond most
  pub least : most ≤ aisle_walked site copies aisle
