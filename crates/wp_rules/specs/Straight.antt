-- Walks by stops: the straight way from a stop to the next, in one aisle or along one end, and the walk past all stops.
use Rattle.std.specs.Prelude.{◌≡◌, ℕ, zero, suc, ◌+◌, ◌-◌, ◌==◌, nat_le, List, [], ◌∷◌, ◌++◌, ◌⊎◌, if◌then◌else◌}
use Rattle.wp_model.specs.declared.point.Point.{Point}
use Rattle.wp_model.specs.Warehouse.{IsPoint, Layout, back_end}
use Rattle.wp_graph.specs.Offsets.{aisle_offset}
use Rattle.wp_graph.specs.Required.{distance}
use Rattle.wp_classes.specs.Paths.{ahead, at, behind}

-- so many aisles on along an end, to the right
abbrev pub rightward : ℕ → ℕ → ℕ → List Point
rightward aisle place zero = []
rightward aisle place (suc n) = at (suc aisle) place ∷ rightward (suc aisle) place n

-- so many aisles back along an end, to the left, to this aisle
abbrev pub leftward : ℕ → ℕ → ℕ → List Point
leftward aisle place zero = []
leftward aisle place (suc n) = at (aisle + n) place ∷ leftward aisle place n

-- from a place of an aisle to another one
unfoldable pub in_aisle : ℕ → ℕ → ℕ → List Point
in_aisle aisle from to = if nat_le from to then ahead aisle from (to - from) else behind aisle to (from - to)

-- from an aisle to another one, along an end
unfoldable pub along_end : ℕ → ℕ → ℕ → List Point
along_end place from to = if nat_le from to then rightward from place (to - from) else leftward to place (from - to)

-- the points after a stop, straight to the next one
unfoldable pub straight : Point → Point → List Point
straight from to = if from.aisle == to.aisle then in_aisle from.aisle from.slot to.slot
    else along_end from.slot from.aisle to.aisle

-- how far two numbers lie apart
abbrev pub apart : ℕ → ℕ → ℕ
apart a b = (a - b) + (b - a)

-- how long the straight way is
unfoldable pub straight_length : Layout → Point → Point → ℕ
straight_length layout from to = apart (distance layout from.slot) (distance layout to.slot)
    + apart (aisle_offset layout from.aisle) (aisle_offset layout to.aisle)

-- two stops lie in one aisle or at one end
pub record AreInLine (layout : Layout) (from to : Point) : Type 0 where
  pub from_point : IsPoint layout from
  pub to_point : IsPoint layout to
  pub line : (from.aisle ≡ to.aisle) ⊎ ((from.slot ≡ to.slot) × ((from.slot ≡ 0) ⊎ (from.slot ≡ back_end layout)))

-- the points after a first stop, past all further stops. A stop that equals the one before adds none
unfoldable pub past : Point → List Point → List Point
past from [] = []
past from (next ∷ stops) = straight from next ++ past next stops

-- how long that is
unfoldable pub past_length : Layout → Point → List Point → ℕ
past_length layout from [] = 0
past_length layout from (next ∷ stops) = straight_length layout from next + past_length layout next stops
