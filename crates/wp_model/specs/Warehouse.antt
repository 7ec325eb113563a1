-- A warehouse of one block: parallel aisles, joined at both ends by a front and a back cross aisle. Its layout, its
-- points and the moves between them.
use Rattle.std.specs.Prelude.{◌≡◌, ℕ, ◌+◌, ◌-◌, ◌≤◌, ◌==◌, ◌||◌, ◌⊎◌, Bool, true, false, if◌then◌else◌, List, ◌∷◌}
use Rattle.std.specs.Prelude.{length, replicate, slice_index, All}
use Rattle.wp_model.specs.Limits.{greatest_length, most_aisles, most_slots}
use Rattle.wp_model.specs.declared.point.Point.{Point}

-- the two ends of an aisle
pub data End : Type 0 where
  at_front : End
  at_back : End

-- the end at the back, or that in front
abbrev pub end_of : Bool → End
end_of false = at_front
end_of true = at_back

-- the numbers of aisles and of slots in each; the lengths between neighbouring slots and from an end of an aisle to its
-- nearest slot, and from each aisle but the last to the next one; and the aisle and the end of it at which the depot
-- lies
pub record Layout : Type 0 where
  pub aisles : ℕ
  pub slots : ℕ
  pub pitch : ℕ
  pub clearance : ℕ
  pub spacings : List ℕ
  pub depot : ℕ
  pub end : End

-- the layout of which all aisles lie equally far from each other, with the depot in front
abbrev pub even_layout : ℕ → ℕ → ℕ → ℕ → ℕ → ℕ → Layout
even_layout aisles slots pitch clearance spacing depot = record {
  aisles = aisles;
  slots = slots;
  pitch = pitch;
  clearance = clearance;
  spacings = replicate (aisles - 1) spacing;
  depot = depot;
  end = at_front;
}

-- a number is at least 1 and at most this
abbrev pub IsUpTo : ℕ → ℕ → Type 0
IsUpTo most n = (1 ≤ n) × (n ≤ most)

-- each number is in its range, and there is a spacing for each two neighbouring aisles
pub record IsLayout (layout : Layout) : Type 0 where
  pub aisles : IsUpTo most_aisles layout.aisles
  pub slots : IsUpTo most_slots layout.slots
  pub pitch : IsUpTo greatest_length layout.pitch
  pub clearance : IsUpTo greatest_length layout.clearance
  pub between : length layout.spacings + 1 ≡ layout.aisles
  pub spacings : All (IsUpTo greatest_length) layout.spacings
  pub depot : IsUpTo layout.aisles layout.depot

-- where an aisle ends at the back: one place behind its last slot
abbrev pub back_end : Layout → ℕ
back_end layout = layout.slots + 1

-- a point lies in an aisle of the layout, at an end of it or between
pub record IsPoint (layout : Layout) (point : Point) : Type 0 where
  pub aisle : IsUpTo layout.aisles point.aisle
  pub slot : point.slot ≤ back_end layout

-- a point is a slot of the layout
pub record IsSlot (layout : Layout) (point : Point) : Type 0 where
  pub aisle : IsUpTo layout.aisles point.aisle
  pub slot : IsUpTo layout.slots point.slot

-- the place of an end of an aisle of which the back end is this place
abbrev pub end_place : ℕ → End → ℕ
end_place last at_front = 0
end_place last at_back = last

-- the point at which every tour begins and ends
abbrev pub depot_point : Layout → Point
depot_point layout = record { aisle = layout.depot; slot = end_place (back_end layout) layout.end }

-- the length from a place in an aisle to the next one behind it
abbrev pub step_length : Layout → ℕ → ℕ
step_length layout slot = if slot == 0 || slot == layout.slots then layout.clearance else layout.pitch

-- the length from an aisle to the next one, along a cross aisle: the entry of the list, 0 where there is none
abbrev pub spacing_after : Layout → ℕ → ℕ
spacing_after layout aisle = slice_index (0 ∷ layout.spacings) aisle

-- from a point to the next one behind it in its aisle
pub record IsDeeper (layout : Layout) (from to : Point) (length : ℕ) : Type 0 where
  pub aisle : to.aisle ≡ from.aisle
  pub slot : to.slot ≡ from.slot + 1
  pub length_is : length ≡ step_length layout from.slot

-- from an end of an aisle to the same end of the next aisle
pub record IsFurther (layout : Layout) (from to : Point) (length : ℕ) : Type 0 where
  pub end : (from.slot ≡ 0) ⊎ (from.slot ≡ back_end layout)
  pub aisle : to.aisle ≡ from.aisle + 1
  pub slot : to.slot ≡ from.slot
  pub length_is : length ≡ spacing_after layout from.aisle

-- the four ways from a point to a neighbour
pub data Step (layout : Layout) (from to : Point) (length : ℕ) : Type 0 where
  deeper : IsDeeper layout from to length → Step layout from to length
  nearer : IsDeeper layout to from length → Step layout from to length
  further : IsFurther layout from to length → Step layout from to length
  back : IsFurther layout to from length → Step layout from to length

-- two points are a move of this length
pub record IsMove (layout : Layout) (from to : Point) (length : ℕ) : Type 0 where
  pub from_point : IsPoint layout from
  pub to_point : IsPoint layout to
  pub step : Step layout from to length
