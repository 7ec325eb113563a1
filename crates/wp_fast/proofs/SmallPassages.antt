-- Bounds of lengths past an aisle, which show that no sum of them wraps.
use Rattle.std.proofs.Common.{◌≡◌, ℕ, ◌<◌, ◌≤◌, List, Option, Some, None, IfSome, arith, refl}
use Rattle.wp_model.specs.declared.point.Point.{Point}
use Rattle.wp_model.specs.Warehouse.{IsLayout, Layout, spacing_after}
use Rattle.wp_graph.specs.AisleLengths.{ways_of}
use Rattle.wp_graph.proofs.AisleOffsets.{spacing_small}
use Rattle.wp_graph.proofs.WayBounds.{ways_small}
use Rattle.wp_classes.specs.declared.class.Class.{Class}
use Rattle.wp_classes.proofs.Small.{across_small, least_small, through_small}
use Rattle.wp_fast.specs.declared.summary.Summary.{Summary}
use Rattle.wp_fast.specs.Passages.{AreLeast, ByCrossings, ByWays, Passage}
use Rattle.wp_fast.specs.Runs.{PastAisle}
use Rattle.wp_fast.specs.Runs.PastAisle.{on, last, behind}
use Rattle.wp_fast.specs.Summaries.{AreBelow, length_between}

-- each length of a summary is at most this
abbrev pub AreUpTo : ℕ → Summary → Type 0
AreUpTo most summary = (before after : Class) → IfSome (length_between summary before after) (λ t. t ≤ most)

-- a bound of a passage is one of its least lengths
pub least_up_to : (Passes : Passage) (summary : Summary) (most : ℕ) → AreLeast Passes summary
    → ((before after : Class) (t : ℕ) → Passes before after t → t ≤ most) → AreUpTo most summary
least_up_to Passes summary most are bound before after =
    least_small (Passes before after) (length_between summary before after) most (are.least before after) (bound before after)

-- lengths up to a bound are below a greater number
pub up_to_below : (most bound : ℕ) (summary : Summary) → most < bound → AreUpTo most summary → AreBelow bound summary
up_to_below most bound summary less are before after = go (length_between summary before after) (are before after)
  where
    go : (length : Option ℕ) → IfSome length (λ t. t ≤ most) → IfSome length (λ t. t < bound)
    go None fits = tt
    go (Some t) fits = omega (arith, fits, less)

-- no way through an aisle of a layout is longer than 4020000
pub by_ways_small : (layout : Layout) (picks : List Point) (aisle : ℕ) → IsLayout layout → (before after : Class) (t : ℕ)
    → ByWays (ways_of layout picks aisle) before after t → t ≤ 4020000
by_ways_small layout picks aisle valid before after t (way, takes) =
    through_small (λ class rest. rest ≡ 0) (ways_of layout picks aisle) 0 (ways_small layout picks aisle valid)
    (λ class rest none. omega (arith, none)) before t
    (way, (after, t, 0, takes, refl, omega arith))

-- no crossing is longer than 40000
pub by_crossings_small : (spacing : ℕ) → spacing ≤ 10000 → (before after : Class) (t : ℕ) → ByCrossings spacing before after t → t ≤ 40000
by_crossings_small spacing small before after t (cross, takes) =
    across_small (λ class rest. rest ≡ 0) spacing 0 small (λ class rest none. omega (arith, none)) before t (cross, (after, t, 0, takes, refl, omega arith))

-- past an aisle it is at most 4060000
pub past_aisle_small : (layout : Layout) (picks : List Point) (aisle : ℕ) → IsLayout layout → (before after : Class) (t : ℕ)
    → PastAisle layout picks aisle before after t → t ≤ 4060000
past_aisle_small layout picks aisle valid before after t (on more (between, (near, far, by, across, total))) =
    let through = by_ways_small layout picks aisle valid before between near by in
    let over = by_crossings_small (spacing_after layout aisle) (spacing_small layout valid aisle) between after far across in
    omega (arith, through, over, total)
past_aisle_small layout picks aisle valid before after t (last at by) = let through = by_ways_small layout picks aisle valid before after t by in
    omega (arith, through)
past_aisle_small layout picks aisle valid before after t (behind past stays) = omega (arith, stays.1)
