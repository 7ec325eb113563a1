-- The stops of each rule lead from home to home, and pass each pick.
use Rattle.std.proofs.Common.{◌≡◌, ◌≢◌, ℕ, ◌+◌, ◌-◌, ◌≤◌, ◌==◌, true, List, [], arith, refl, sym, subst, inl, inr, ◌⊎◌}
use Rattle.std.proofs.lemmas.Bool.{cases_eq, cond-true, cond-false, eq-eqb, ne_eqb}
use Rattle.wp_model.specs.declared.point.Point.{Point}
use Rattle.wp_model.specs.Warehouse.{End, IsUpTo, Layout, back_end}
use Rattle.wp_model.specs.Warehouse.End.{at_front, at_back}
use Rattle.wp_rules.specs.Rules.{deepest, far_part, from_far, from_home, gap_of, home_part, is_picked, place_of, return_stops, stop}
use Rattle.wp_rules.proofs.OffGaps.{IsFree, deepest-le, none_deeper, widest_free}
use Rattle.wp_rules.proofs.Lines.{IsEndPlace}
use Rattle.wp_rules.proofs.Trips.{AlwaysPass, EndTrip, end_trip-nil, enter, enter_passes, enter_trip, visit, visit_passes, visit_trip}

-- the places of home and far
abbrev pub home_place : Layout → ℕ
home_place layout = place_of layout.end (back_end layout) 0

abbrev pub far_place : Layout → ℕ
far_place layout = place_of layout.end (back_end layout) (back_end layout)

ends_of : (end : End) (last : ℕ) → ((place_of end last 0 ≡ 0) ⊎ (place_of end last 0 ≡ last)) × ((place_of end last last ≡ 0) ⊎ (place_of end last last ≡ last))
ends_of at_front last = (inl refl, inr refl)
ends_of at_back last = (inr (omega arith), inl (omega arith))

place_within : (end : End) (last depth : ℕ) → depth ≤ last → place_of end last depth ≤ last
place_within at_front last depth low = low
place_within at_back last depth low = omega arith

-- places lie between others as their depths do
between_places : (end : End) (last one depth other : ℕ) → one ≤ last → depth ≤ last → other ≤ last
    → ((one ≤ depth) × (depth ≤ other)) ⊎ ((other ≤ depth) × (depth ≤ one))
    → ((place_of end last one ≤ place_of end last depth) × (place_of end last depth ≤ place_of end last other))
    ⊎ ((place_of end last other ≤ place_of end last depth) × (place_of end last depth ≤ place_of end last one))
between_places at_front last one depth other a b c between = between
between_places at_back last one depth other a b c (inl up) = inr (omega (arith, up), omega (arith, up))
between_places at_back last one depth other a b c (inr down) = inl (omega (arith, down), omega (arith, down))

-- the depth of a place, and that it tells the place
pub depth_of : End → ℕ → ℕ → ℕ
depth_of at_front last place = place
depth_of at_back last place = last - place

pub depth_told : (end : End) (last place : ℕ) → place ≤ last → place_of end last (depth_of end last place) ≡ place
unfolding depth_of
depth_told at_front last place low = refl
depth_told at_back last place low = omega arith

pub depth_within : (end : End) (slots place : ℕ) → IsUpTo slots place → IsUpTo slots (depth_of end (slots + 1) place)
unfolding depth_of
depth_within at_front slots place within = within
depth_within at_back slots place within = (omega (arith, within.0, within.1), omega (arith, within.0, within.1))

pub home_is_end : (layout : Layout) → IsEndPlace layout (home_place layout)
home_is_end layout = (ends_of layout.end (back_end layout)).0

pub far_is_end : (layout : Layout) → IsEndPlace layout (far_place layout)
far_is_end layout = (ends_of layout.end (back_end layout)).1

pub home_within : (layout : Layout) → home_place layout ≤ back_end layout
home_within layout = place_within layout.end (back_end layout) 0 (omega arith)

pub far_within : (layout : Layout) → far_place layout ≤ back_end layout
far_within layout = place_within layout.end (back_end layout) (back_end layout) (omega arith)

-- into an aisle from home and back
pub from_home_trip : (layout : Layout) (aisle depth : ℕ) → IsUpTo layout.aisles aisle → depth ≤ back_end layout
    → EndTrip layout (home_place layout) (home_place layout) (from_home layout aisle depth)
from_home_trip layout aisle depth within low = elim (cases_eq depth 0) [
  | inl e ↦ subst (λ (stops : List Point). EndTrip layout (home_place layout) (home_place layout) stops)
      (sym (cond-true (depth == 0) [] (visit aisle (home_place layout) (place_of layout.end (back_end layout) depth)) (eq-eqb depth 0 e)))
      (end_trip-nil layout (home_place layout))
  | inr ne ↦ subst (λ (stops : List Point). EndTrip layout (home_place layout) (home_place layout) stops)
      (sym (cond-false (depth == 0) [] (visit aisle (home_place layout) (place_of layout.end (back_end layout) depth)) (ne_eqb depth 0 ne)))
      (visit_trip layout aisle (home_place layout) (place_of layout.end (back_end layout) depth) within (home_is_end layout) (home_within layout)
      (place_within layout.end (back_end layout) depth low))
]

pub from_home_passes : (layout : Layout) (aisle depth other : ℕ) → IsUpTo layout.aisles aisle → depth ≤ back_end layout → 1 ≤ other → other ≤ depth
    → AlwaysPass layout (home_place layout) (from_home layout aisle depth) (stop layout aisle other)
from_home_passes layout aisle depth other within low some high =
    let ne : depth ≢ 0 = omega arith in
    subst (λ (stops : List Point). AlwaysPass layout (home_place layout) stops (stop layout aisle other))
    (sym (cond-false (depth == 0) [] (visit aisle (home_place layout) (place_of layout.end (back_end layout) depth)) (ne_eqb depth 0 ne)))
    (visit_passes layout aisle (home_place layout) (place_of layout.end (back_end layout) depth) (place_of layout.end (back_end layout) other) within
    (home_is_end layout) (home_within layout)
    (between_places layout.end (back_end layout) 0 other depth (omega arith) (omega arith) low (inl (omega arith, high))))

-- into an aisle from far and back
pub from_far_trip : (layout : Layout) (aisle depth : ℕ) → IsUpTo layout.aisles aisle → depth ≤ back_end layout
    → EndTrip layout (far_place layout) (far_place layout) (from_far layout aisle depth)
from_far_trip layout aisle depth within low = elim (cases_eq depth (back_end layout)) [
  | inl e ↦ subst (λ (stops : List Point). EndTrip layout (far_place layout) (far_place layout) stops)
      (sym (cond-true (depth == back_end layout) [] (visit aisle (far_place layout) (place_of layout.end (back_end layout) depth))
      (eq-eqb depth (back_end layout) e)))
      (end_trip-nil layout (far_place layout))
  | inr ne ↦ subst (λ (stops : List Point). EndTrip layout (far_place layout) (far_place layout) stops)
      (sym (cond-false (depth == back_end layout) [] (visit aisle (far_place layout) (place_of layout.end (back_end layout) depth))
      (ne_eqb depth (back_end layout) ne)))
      (visit_trip layout aisle (far_place layout) (place_of layout.end (back_end layout) depth) within (far_is_end layout) (far_within layout)
      (place_within layout.end (back_end layout) depth low))
]

pub from_far_passes : (layout : Layout) (aisle depth other : ℕ) → IsUpTo layout.aisles aisle → depth ≤ other → other ≤ layout.slots
    → AlwaysPass layout (far_place layout) (from_far layout aisle depth) (stop layout aisle other)
from_far_passes layout aisle depth other within low high =
    let ne : depth ≢ back_end layout = omega arith in
    subst (λ (stops : List Point). AlwaysPass layout (far_place layout) stops (stop layout aisle other))
    (sym (cond-false (depth == back_end layout) [] (visit aisle (far_place layout) (place_of layout.end (back_end layout) depth))
    (ne_eqb depth (back_end layout) ne)))
    (visit_passes layout aisle (far_place layout) (place_of layout.end (back_end layout) depth) (place_of layout.end (back_end layout) other) within
    (far_is_end layout) (far_within layout)
    (between_places layout.end (back_end layout) (back_end layout) other depth (omega arith) (omega arith) (omega arith) (inr (low, omega arith))))

-- a pick by its depth: a slot of an aisle
pub record IsPickAt (layout : Layout) (picks : List Point) (p : Point) (depth : ℕ) : Type 0 where
  pub aisle : IsUpTo layout.aisles p.aisle
  pub depth_low : 1 ≤ depth
  pub depth_high : depth ≤ layout.slots
  pub is : stop layout p.aisle depth ≡ p
  pub picked : is_picked layout picks p.aisle depth ≡ true

-- the aisles of a rule
pub return_trip : (layout : Layout) (picks : List Point) (aisle : ℕ) → IsUpTo layout.aisles aisle
    → EndTrip layout (home_place layout) (home_place layout) (return_stops layout picks aisle)
return_trip layout picks aisle within =
    from_home_trip layout aisle (deepest layout picks aisle) within (omega (arith, deepest-le (is_picked layout picks aisle) layout.slots))

pub return_passes : (layout : Layout) (picks : List Point) (p : Point) (depth : ℕ) → IsPickAt layout picks p depth
    → AlwaysPass layout (home_place layout) (return_stops layout picks p.aisle) p
return_passes layout picks p depth is =
    subst (λ (q : Point). AlwaysPass layout (home_place layout) (return_stops layout picks p.aisle) q) is.is
    (from_home_passes layout p.aisle (deepest layout picks p.aisle) depth is.aisle
    (omega (arith, deepest-le (is_picked layout picks p.aisle) layout.slots)) is.depth_low
    (none_deeper (is_picked layout picks p.aisle) layout.slots depth is.depth_low is.depth_high is.picked))

gap_free : (layout : Layout) (picks : List Point) (aisle : ℕ) → IsFree (is_picked layout picks aisle) 0 1 layout.slots (gap_of layout picks aisle)
gap_free layout picks aisle = widest_free layout (is_picked layout picks aisle) 0 1 layout.slots (omega arith)

pub home_part_trip : (layout : Layout) (picks : List Point) (aisle : ℕ) → IsUpTo layout.aisles aisle
    → EndTrip layout (home_place layout) (home_place layout) (home_part layout picks aisle)
home_part_trip layout picks aisle within =
    let free = gap_free layout picks aisle in
    from_home_trip layout aisle (gap_of layout picks aisle).shallow within (omega (arith, free.order, free.deep))

pub far_part_trip : (layout : Layout) (picks : List Point) (aisle : ℕ) → IsUpTo layout.aisles aisle
    → EndTrip layout (far_place layout) (far_place layout) (far_part layout picks aisle)
far_part_trip layout picks aisle within =
    let free = gap_free layout picks aisle in
    from_far_trip layout aisle (gap_of layout picks aisle).deep within (omega (arith, free.deep))

-- a pick is passed from home or from far
pub parts_pass : (layout : Layout) (picks : List Point) (p : Point) (depth : ℕ) → IsPickAt layout picks p depth
    → AlwaysPass layout (home_place layout) (home_part layout picks p.aisle) p ⊎ AlwaysPass layout (far_place layout) (far_part layout picks p.aisle) p
parts_pass layout picks p depth is =
    let free = gap_free layout picks p.aisle in
    let gap = gap_of layout picks p.aisle in
    elim (free.off depth is.depth_low (omega (arith, is.depth_high)) is.picked) [
      | inl low ↦ inl (subst (λ (q : Point). AlwaysPass layout (home_place layout) (home_part layout picks p.aisle) q) is.is
          (from_home_passes layout p.aisle gap.shallow depth is.aisle (omega (arith, free.order, free.deep)) is.depth_low low))
      | inr high ↦ inr (subst (λ (q : Point). AlwaysPass layout (far_place layout) (far_part layout picks p.aisle) q) is.is
          (from_far_passes layout p.aisle gap.deep depth is.aisle high is.depth_high))
    ]

-- through an aisle passes all of it
pub up_trip : (layout : Layout) (aisle : ℕ) → IsUpTo layout.aisles aisle
    → EndTrip layout (home_place layout) (far_place layout) (enter aisle (home_place layout) (far_place layout))
up_trip layout aisle within = enter_trip layout aisle (home_place layout) (far_place layout) within (home_is_end layout) (home_within layout)
    (far_within layout)

pub down_trip : (layout : Layout) (aisle : ℕ) → IsUpTo layout.aisles aisle
    → EndTrip layout (far_place layout) (home_place layout) (enter aisle (far_place layout) (home_place layout))
down_trip layout aisle within = enter_trip layout aisle (far_place layout) (home_place layout) within (far_is_end layout) (far_within layout)
    (home_within layout)

pub up_passes : (layout : Layout) (picks : List Point) (p : Point) (depth : ℕ) → IsPickAt layout picks p depth
    → AlwaysPass layout (home_place layout) (enter p.aisle (home_place layout) (far_place layout)) p
up_passes layout picks p depth is =
    subst (λ (q : Point). AlwaysPass layout (home_place layout) (enter p.aisle (home_place layout) (far_place layout)) q) is.is
    (enter_passes layout p.aisle (home_place layout) (far_place layout) (place_of layout.end (back_end layout) depth) is.aisle (home_is_end layout)
    (home_within layout) (between_places layout.end (back_end layout) 0 depth (back_end layout) (omega arith) (omega (arith, is.depth_high)) (omega arith)
    (inl (omega arith, omega (arith, is.depth_high)))))

pub down_passes : (layout : Layout) (picks : List Point) (p : Point) (depth : ℕ) → IsPickAt layout picks p depth
    → AlwaysPass layout (far_place layout) (enter p.aisle (far_place layout) (home_place layout)) p
down_passes layout picks p depth is =
    subst (λ (q : Point). AlwaysPass layout (far_place layout) (enter p.aisle (far_place layout) (home_place layout)) q) is.is
    (enter_passes layout p.aisle (far_place layout) (home_place layout) (place_of layout.end (back_end layout) depth) is.aisle (far_is_end layout)
    (far_within layout) (between_places layout.end (back_end layout) (back_end layout) depth 0 (omega arith) (omega (arith, is.depth_high)) (omega arith)
    (inr (omega arith, omega (arith, is.depth_high)))))
