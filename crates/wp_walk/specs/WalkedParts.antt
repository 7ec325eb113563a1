-- The part of a tour with a way through one more aisle.
use Rattle.std.specs.Prelude.{◌≡◌, ℕ, ◌+◌, List, Some}
use Rattle.wp_model.specs.declared.point.Point.{Point}
use Rattle.wp_model.specs.Warehouse.{Layout}
use Rattle.wp_graph.specs.PickSets.{AreSlots}
use Rattle.wp_graph.specs.AisleLengths.{ways_of}
use Rattle.wp_classes.specs.declared.class.Class.{Class}
use Rattle.wp_classes.specs.declared.class.Cross.{Cross}
use Rattle.wp_classes.specs.declared.class.Way.{Way}
use Rattle.wp_classes.specs.Parts.{AreTurns, with_cross, with_way}
use Rattle.wp_classes.specs.Tables.{class_after_cross, class_after_way, way_length}
use Rattle.wp_classes.specs.Rounds.{IsPart}
use Rattle.wp_walk.specs.declared.walk.Walked.{Walked}

-- a way through an aisle that turns where it has to
pub record TakesAisle (layout : Layout) (picks : List Point) (aisle : ℕ) (way : Way)
    (before after : Walked) : Type 0 where
  pub slots : AreSlots layout picks
  pub near : ℕ
  pub far : ℕ
  pub turns : AreTurns layout picks aisle way near far
  pub paths : after.paths ≡ with_way layout aisle near far before.class way before.paths
  pub class : class_after_way before.class way ≡ Some after.class

-- what is walked after an aisle is the part of a tour, with this length
pub record IsWalked (layout : Layout) (picks : List Point) (aisle : ℕ) (walked : Walked) (total : ℕ) : Type 0 where
  pub slots : AreSlots layout picks
  pub part : IsPart layout picks aisle aisle walked.class walked.paths total

-- a crossing and a way that the tables allow from a class, and the way applies
pub record IsStep (layout : Layout) (picks : List Point) (left : ℕ) (cross : Cross) (way : Way)
    (class : Class) : Type 0 where
  pub between : Class
  pub next : Class
  pub length : ℕ
  pub crosses : class_after_cross class cross ≡ Some between
  pub allowed : class_after_way between way ≡ Some next
  pub applies : way_length (ways_of layout picks (left + 1)) way ≡ Some length

-- a part with a crossing to the next aisle and a way through it
pub record IsStepped (layout : Layout) (picks : List Point) (left : ℕ) (cross : Cross) (way : Way)
    (before after : Walked) : Type 0 where
  pub crossed : Walked
  pub crosses : class_after_cross before.class cross ≡ Some crossed.class
  pub paths : crossed.paths ≡ with_cross layout left before.class cross before.paths
  pub takes : TakesAisle layout picks (left + 1) way crossed after
