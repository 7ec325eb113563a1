-- Ways through the aisles of a layout that are kept.
use Rattle.std.specs.Prelude.{◌≡◌, ℕ, ◌-◌, false, List, slice_index_or}
use Rattle.wp_model.specs.declared.point.Point.{Point}
use Rattle.wp_model.specs.Warehouse.{IsUpTo, Layout}
use Rattle.wp_graph.specs.declared.ways.AisleWays.{AisleWays}
use Rattle.wp_graph.specs.AisleLengths.{ways_of}
use Rattle.wp_graph.specs.PickSets.{HaveSlotIn, PickSet}
use Rattle.wp_fast.specs.declared.needed.KeptBut.{KeptBut}

-- the ways through an aisle with these picks stand in a list, the first aisle's first
abbrev pub AreWaysAt : Layout → List Point → List AisleWays → ℕ → Type 0
AreWaysAt layout picks ways aisle = (d : AisleWays) → slice_index_or ways (aisle - 1) d ≡ ways_of layout picks aisle

-- so do those through each aisle
abbrev pub AreWaysOfAll : Layout → List Point → List AisleWays → Type 0
AreWaysOfAll layout picks ways = (aisle : ℕ) → IsUpTo layout.aisles aisle → AreWaysAt layout picks ways aisle

-- and those through each aisle in which some picks have no slot
abbrev pub AreWaysElsewhere : Layout → List Point → List Point → List AisleWays → Type 0
AreWaysElsewhere layout picks but ways = (aisle : ℕ) → IsUpTo layout.aisles aisle → (HaveSlotIn but aisle → ⊥)
    → AreWaysAt layout picks ways aisle

-- ways that are kept but for the marked aisles
pub record AreKeptBut (layout : Layout) (picks : List Point) (kept : KeptBut) : Type 0 where
  pub unmarked : (aisle : ℕ) → IsUpTo layout.aisles aisle → slice_index_or kept.marks.now (aisle - 1) false ≡ false
      → AreWaysAt layout picks kept.ways.now aisle

-- the ways through each aisle of a layout, with the slots of a set
pub record AreKeptFor (layout : Layout) (picks : PickSet) (ways : List AisleWays) : Type 0 where
  pub layout_is : picks.layout ≡ layout
  pub each : AreWaysOfAll layout picks.points ways
