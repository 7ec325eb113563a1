-- Waves that went out, and where their orders pick.
use Rattle.std.specs.Prelude.{◌≡◌, ℕ, ◌<◌, ◌≤◌, ◌↔◌, List, All, Contains, Some, length, slice_get}
use Rattle.wp_model.specs.HoldLists.{IsHoldWithin, Rises}
use Rattle.wp_model.specs.Limits.{most_wave_orders}
use Rattle.wp_model.specs.Opening.{Opening, Stock, order_units}
use Rattle.wp_model.specs.Warehouse.{IsSlot, Layout}
use Rattle.wp_model.specs.declared.point.Point.{Point}
use Rattle.wp_model.specs.declared.row.Hold.{Hold}
use Rattle.wp_machine.specs.declared.outcome.WaveHolds.{WaveHolds}
use Rattle.wp_lengths.specs.Waves.{WavePicks, picks_of}
use Rattle.wp_graph.specs.PickSets.{AreSlots}
use Rattle.wp_planner.specs.Loads.{AreLight, IsCartOf, load_for}
use Rattle.wp_planner.specs.Slots.{HoldsAt, slot_at}

-- a hold is for an order
abbrev pub HasHold : List Hold → ℕ → Type 0
HasHold holds order = (hold : Hold) × Contains holds hold × (hold.order ≡ order)

-- A wave has 1 to 64 orders, each of which holds units. All that it holds is held for one of them in one of so many
-- rows, and is listed by order and then by row.
pub record IsListed (rows : ℕ) (wave : WaveHolds) : Type 0 where
  pub some : 1 ≤ length wave.orders
  pub most : length wave.orders ≤ most_wave_orders
  pub within : All (IsHoldWithin (length wave.orders) rows) wave.holds
  pub rise : Rises wave.holds
  pub filled : (order : ℕ) → order < length wave.orders → HasHold wave.holds order

-- A wave that went out is listed so, with holds in the rows of the stock. Where carts hold so many units, no order
-- loads more.
pub record IsReleased (opening : Opening) (released : WaveHolds) : Type 0 where
  pub listed : IsListed (length opening.stock.rows) released
  pub light : AreLight opening.units released.holds

-- a wave that went out, and the opening in whose stock it holds units
pub record Released : Type 0 where
  pub opening : Opening
  pub wave : WaveHolds

-- each order of a wave holds what its lines want together
abbrev pub IsServed : Opening → WaveHolds → Type 0
IsServed opening released = (order : ℕ) (name : List ℕ) → slice_get released.orders order ≡ Some name
    → load_for released.holds order ≡ order_units opening.orders name

-- each row of the stock lies at a slot of the layout
abbrev pub LiesIn : Layout → Stock → Type 0
LiesIn layout stock = All (λ row. IsSlot layout (slot_at row.location)) stock.rows

-- the wave of a layout whose orders pick where those of a wave that went out hold units, at slots of the layout; where
-- carts hold so many units, it has such a cart, in which each order loads what it holds
pub record IsWaveOf (layout : Layout) (opening : Opening) (released : WaveHolds) (wave : WavePicks) : Type 0 where
  pub layout_is : wave.layout ≡ layout
  pub orders : length wave.orders ≡ length released.orders
  pub picks : (order : ℕ) (point : Point) → order < length released.orders
      → (Contains (picks_of wave order) point ↔ HoldsAt opening.stock.rows released.holds order point)
  pub slots : (order : ℕ) → order < length released.orders → AreSlots layout (picks_of wave order)
  pub cart : IsCartOf opening.units released wave.cart
