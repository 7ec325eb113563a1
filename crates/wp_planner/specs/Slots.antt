-- The slots at which orders hold units.
use Rattle.std.specs.Prelude.{◌≡◌, ℕ, ◌<◌, ◌↔◌, List, All, Some, Contains, length, slice_get, slice_index_or}
use Rattle.wp_model.specs.Warehouse.{Layout}
use Rattle.wp_model.specs.declared.location.Location.{Location}
use Rattle.wp_model.specs.declared.point.Point.{Point}
use Rattle.wp_model.specs.declared.row.Hold.{Hold}
use Rattle.wp_model.specs.declared.row.StockRow.{StockRow}
use Rattle.wp_graph.specs.PickSets.{PickSet}

-- the slot of a location, whichever its side
abbrev pub slot_at : Location → Point
slot_at location = record { aisle = location.aisle; slot = location.slot }

-- an order holds some units in a row that lies at this slot
pub record HoldsAt (rows : List StockRow) (holds : List Hold) (order : ℕ) (point : Point) : Type 0 where
  pub hold : Hold
  pub held : Contains holds hold
  pub of_order : hold.order ≡ order
  pub row : StockRow
  pub in_row : slice_get rows hold.row ≡ Some row
  pub lies : point ≡ slot_at row.location

-- so many orders' picks in a layout: each order picks at the slots at which it holds units
pub record ArePicksOf (layout : Layout) (rows : List StockRow) (holds : List Hold) (orders : ℕ)
    (picks : List PickSet) : Type 0 where
  pub count : length picks ≡ orders
  pub of_layout : All (λ set. set.layout ≡ layout) picks
  pub each : (order : ℕ) (d : PickSet) (point : Point) → order < orders
      → (Contains (slice_index_or picks order d).points point ↔ HoldsAt rows holds order point)
