-- How a tour comes past neighbouring aisles of a layout.
use Rattle.std.specs.Prelude.{◌≡◌, ℕ, zero, suc, ◌<◌, List}
use Rattle.wp_model.specs.declared.point.Point.{Point}
use Rattle.wp_model.specs.Warehouse.{Layout, spacing_after}
use Rattle.wp_graph.specs.AisleLengths.{ways_of}
use Rattle.wp_classes.specs.declared.class.Class.{Class}
use Rattle.wp_fast.specs.Passages.{ByCrossings, ByWays, Stays, Then}

-- past an aisle: by a way through it, and then by a crossing to the next where it isn't the last; there is nothing
-- behind the last aisle
pub data PastAisle (layout : Layout) (picks : List Point) (aisle : ℕ) (before after : Class) (total : ℕ) : Type 0 where
  on : aisle < layout.aisles → Then (ByWays (ways_of layout picks aisle))
      (ByCrossings (spacing_after layout aisle)) before after total
      → PastAisle layout picks aisle before after total
  last : aisle ≡ layout.aisles → ByWays (ways_of layout picks aisle) before after total
      → PastAisle layout picks aisle before after total
  behind : layout.aisles < aisle → Stays before after total → PastAisle layout picks aisle before after total

-- past so many aisles, from this one on
unfoldable pub PastRun : Layout → List Point → ℕ → ℕ → Class → Class → ℕ → Type 0
PastRun layout picks zero aisle before after total = Stays before after total
PastRun layout picks (suc more) aisle before after total =
    Then (PastAisle layout picks aisle) (λ b a t. PastRun layout picks more (suc aisle) b a t) before after total
