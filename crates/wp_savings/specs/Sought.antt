-- Orders for which waves are sought.
use Rattle.std.specs.Prelude.{List}
use Rattle.std.specs.List.{All}
use Rattle.wp_model.specs.Warehouse.{IsSlot, Layout}
use Rattle.wp_savings.specs.declared.orders.SoughtOrder.{SoughtOrder}

-- a layout, and orders that pick in it
pub record Sought : Type 0 where
  pub layout : Layout
  pub orders : List SoughtOrder

-- orders pick at slots of a layout
abbrev pub PickIn : Layout → List SoughtOrder → Type 0
PickIn layout orders = All (λ (order : SoughtOrder). All (IsSlot layout) order.slots.items) orders
