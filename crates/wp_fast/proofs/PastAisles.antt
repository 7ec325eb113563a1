-- The cases of an aisle: the last, one before it and one behind it.
use Rattle.std.proofs.Common.{◌≡◌, ℕ, ◌<◌, List, arith}
use Rattle.wp_model.specs.declared.point.Point.{Point}
use Rattle.wp_model.specs.Warehouse.{Layout, spacing_after}
use Rattle.wp_graph.specs.AisleLengths.{ways_of}
use Rattle.wp_classes.specs.declared.class.Class.{Class}
use Rattle.wp_fast.specs.declared.summary.Summary.{Summary}
use Rattle.wp_fast.specs.Passages.{AreLeast, ByCrossings, ByWays, IsComposed, Stays, Then}
use Rattle.wp_fast.specs.Runs.{PastAisle}
use Rattle.wp_fast.specs.Runs.PastAisle.{on, last, behind}
use Rattle.wp_fast.proofs.Composing.{composed_least, least_alike}

-- past an aisle that isn't the last, by a way and a crossing
pub past_on : (layout : Layout) (picks : List Point) (aisle : ℕ) (before after : Class) (t : ℕ) → aisle < layout.aisles
    → PastAisle layout picks aisle before after t
    → Then (ByWays (ways_of layout picks aisle)) (ByCrossings (spacing_after layout aisle)) before after t
past_on layout picks aisle before after t less (on more h) = h
past_on layout picks aisle before after t less (last at h) = absurd (omega (arith, less, at))
past_on layout picks aisle before after t less (behind past h) = absurd (omega (arith, less, past))

-- past the last, by a way
pub past_last : (layout : Layout) (picks : List Point) (aisle : ℕ) (before after : Class) (t : ℕ) → aisle ≡ layout.aisles
    → PastAisle layout picks aisle before after t → ByWays (ways_of layout picks aisle) before after t
past_last layout picks aisle before after t at (on more h) = absurd (omega (arith, more, at))
past_last layout picks aisle before after t at (last here h) = h
past_last layout picks aisle before after t at (behind past h) = absurd (omega (arith, past, at))

-- behind it, nothing changes
pub past_behind : (layout : Layout) (picks : List Point) (aisle : ℕ) (before after : Class) (t : ℕ) → layout.aisles < aisle
    → PastAisle layout picks aisle before after t → Stays before after t
past_behind layout picks aisle before after t past (on more h) = absurd (omega (arith, more, past))
past_behind layout picks aisle before after t past (last at h) = absurd (omega (arith, at, past))
past_behind layout picks aisle before after t past (behind beyond h) = h

-- the least lengths in each case
pub least_on : (layout : Layout) (picks : List Point) (aisle : ℕ) (through over both : Summary) → aisle < layout.aisles →
    AreLeast (ByWays (ways_of layout picks aisle)) through → AreLeast (ByCrossings (spacing_after layout aisle)) over → IsComposed through over both
    → AreLeast (PastAisle layout picks aisle) both
least_on layout picks aisle through over both less by across composed =
    let ByBoth : Class → Class → ℕ → Type 0 = Then (ByWays (ways_of layout picks aisle)) (ByCrossings (spacing_after layout aisle)) in
    least_alike ByBoth (PastAisle layout picks aisle) both (λ before after t h. on less h)
    (λ before after t h. past_on layout picks aisle before after t less h)
    (composed_least (ByWays (ways_of layout picks aisle)) (ByCrossings (spacing_after layout aisle)) through over both by across composed)

pub least_last : (layout : Layout) (picks : List Point) (aisle : ℕ) (through : Summary) → aisle ≡ layout.aisles →
    AreLeast (ByWays (ways_of layout picks aisle)) through → AreLeast (PastAisle layout picks aisle) through
least_last layout picks aisle through at by =
    least_alike (ByWays (ways_of layout picks aisle)) (PastAisle layout picks aisle) through (λ before after t h. last at h)
    (λ before after t h. past_last layout picks aisle before after t at h) by

pub least_behind : (layout : Layout) (picks : List Point) (aisle : ℕ) (nothing : Summary) → layout.aisles < aisle → AreLeast Stays nothing
    → AreLeast (PastAisle layout picks aisle) nothing
least_behind layout picks aisle nothing past stays =
    least_alike Stays (PastAisle layout picks aisle) nothing (λ before after t h. behind past h)
    (λ before after t h. past_behind layout picks aisle before after t past h) stays
