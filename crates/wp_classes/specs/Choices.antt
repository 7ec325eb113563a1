-- A choice of ways and crossings, what the tables allow of it and how long it is.
use Rattle.std.specs.Prelude.{◌≡◌, ℕ, zero, suc, ◌+◌, ◌-◌, ◌*◌, ◌≤◌, IsTrue, List, Some, length, slice_index_or}
use Rattle.wp_model.specs.declared.point.Point.{Point}
use Rattle.wp_model.specs.Warehouse.{Layout, spacing_after}
use Rattle.wp_graph.specs.declared.ways.AisleWays.{AisleWays}
use Rattle.wp_graph.specs.AisleLengths.{ways_of}
use Rattle.wp_classes.specs.declared.class.Class.{Class}
use Rattle.wp_classes.specs.declared.class.Class.TheVariants.{Z00}
use Rattle.wp_classes.specs.declared.class.Way.{Way}
use Rattle.wp_classes.specs.declared.class.Way.TheVariants.{Skip}
use Rattle.wp_classes.specs.declared.class.Cross.{Cross}
use Rattle.wp_classes.specs.declared.class.Cross.TheVariants.{C00}
use Rattle.wp_classes.specs.Tables.{class_after_cross, class_after_way, copies, is_whole, way_length}

-- the ways through each aisle, and the length from each aisle to the next
pub record Block : Type 0 where
  pub ways : ℕ → AisleWays
  pub spacing : ℕ → ℕ

-- a layout with its picks
abbrev pub block_of : Layout → List Point → Block
block_of layout picks = record { ways = ways_of layout picks; spacing = spacing_after layout }

-- a way for each aisle, and for each aisle the crossing to the next
pub record Route : Type 0 where
  pub way : ℕ → Way
  pub cross : ℕ → Cross

-- the ways of all aisles and the crossings between them, from the left
pub record Choices : Type 0 where
  pub ways : List Way
  pub crosses : List Cross

-- the route that lists of ways and crossings make, aisles being counted from 1
abbrev pub route_of : Choices → Route
route_of choices = record {
  way = λ aisle. slice_index_or choices.ways
      (aisle - 1) Skip;
  cross = λ aisle. slice_index_or choices.crosses (aisle - 1) C00;
}

-- a way leads through an aisle from one class to another, and has this length
pub record TakesWay (ways : AisleWays) (way : Way) (before after : Class) (length : ℕ) : Type 0 where
  pub allowed : class_after_way before way ≡ Some after
  pub applies : way_length ways way ≡ Some length

-- a crossing leads from one class to another
pub record TakesCross (spacing : ℕ) (cross : Cross) (before after : Class) (length : ℕ) : Type 0 where
  pub allowed : class_after_cross before cross ≡ Some after
  pub length_is : length ≡ copies cross * spacing

-- With the first aisle and so many more, a route comes to a class with this length. It begins in class 000 before the
-- first aisle.
abbrev pub ComesTo : Block → Route → ℕ → Class → ℕ → Type 0
ComesTo block route zero class total = TakesWay (block.ways 1) (route.way 1) Z00 class total
ComesTo block route (suc more) class total =
    (before : Class) × (between : Class) × (so_far : ℕ) × (across : ℕ) × (through : ℕ)
    × ComesTo block route more before so_far
    × TakesCross (block.spacing (suc more)) (route.cross (suc more)) before between across
    × TakesWay (block.ways (suc (suc more))) (route.way (suc (suc more))) between class through
    × (total ≡ so_far + across + through)

-- how a route comes from one aisle to the next
pub record ComesOn (block : Block) (route : Route) (more : ℕ) (class : Class) (so_far : ℕ) : Type 0 where
  pub between : Class
  pub next : Class
  pub across : ℕ
  pub through : ℕ
  pub crosses : TakesCross (block.spacing (suc more)) (route.cross (suc more)) class between across
  pub takes : TakesWay (block.ways (suc (suc more))) (route.way (suc (suc more))) between next through
  pub comes : ComesTo block route (suc more) next (so_far + across + through)

-- the tables allow a route for all aisles, it makes a whole tour, and its length is this
pub record IsAllowed (layout : Layout) (picks : List Point) (route : Route) (total : ℕ) : Type 0 where
  pub class : Class
  pub comes : ComesTo (block_of layout picks) route (layout.aisles - 1) class total
  pub whole : IsTrue (is_whole class)

-- some route that the tables allow has this length, and none has a smaller one
pub record IsLeastRoute (layout : Layout) (picks : List Point) (total : ℕ) : Type 0 where
  pub some : (route : Route) × IsAllowed layout picks route total
  pub least : (route : Route) (other : ℕ) → IsAllowed layout picks route other → total ≤ other

-- a way for each aisle and a crossing for each two neighbouring aisles, which the tables allow with this length
pub record IsChoiceOf (layout : Layout) (picks : List Point) (choices : Choices) (total : ℕ) : Type 0 where
  pub ways : length choices.ways ≡ layout.aisles
  pub crosses : length choices.crosses ≡ layout.aisles - 1
  pub allowed : IsAllowed layout picks (route_of choices) total
