-- What the open orders of a file keep, and how they are read.
use Rattle.std.specs.Prelude.{◌≡◌, ℕ, ◌≤◌, true, false, Bool, IsTrue, List, length, map, Some, slice_get}
use Rattle.std.specs.List.{All}
use Rattle.wp_model.specs.Opening.{Order, is_known_order}
use Rattle.wp_model.specs.Sound.{AreDifferent}
use Rattle.wp_waves.specs.OpenFile.{greatest_rank, is_open, most_group_bytes}
use Rattle.wp_waves.specs.declared.open_orders.OpenOrder.{OpenOrder}

-- no two orders have the same name
abbrev pub AreNamedApart : List Order → Type 0
AreNamedApart orders = (i j : ℕ) (a b : Order) → slice_get orders i ≡ Some a → slice_get orders j ≡ Some b
    → a.name ≡ b.name → i ≡ j

-- the name of an open order
abbrev pub order_of : OpenOrder → List ℕ
order_of one = one.order

-- an open order is one of the orders, its group has a name that isn't too long, and its rank isn't too great
pub record IsOpenOrder (orders : List Order) (one : OpenOrder) : Type 0 where
  pub known : IsTrue (is_known_order orders one.order)
  pub group : length one.group ≤ most_group_bytes
  pub rank : one.rank ≤ greatest_rank

-- open orders of these orders, no two the same
pub record AreOpenOrders (orders : List Order) (listed : List OpenOrder) : Type 0 where
  pub each : All (IsOpenOrder orders) listed
  pub different : AreDifferent (map order_of listed)

-- a further open order may follow these
pub record MayFollow (orders : List Order) (listed : List OpenOrder) (one : OpenOrder) : Type 0 where
  pub is : IsOpenOrder orders one
  pub new : is_open listed one.order ≡ false

-- the orders of an order file, and the open orders that were read so far
pub record SoFar : Type 0 where
  pub orders : List Order
  pub listed : List OpenOrder

-- for each order there is a mark that says whether one of the open orders is of it
pub record AreMarked (orders : List Order) (listed : List OpenOrder) (marks : List Bool) : Type 0 where
  pub count : length marks ≡ length orders
  pub each : (i : ℕ) (order : Order) → slice_get orders i ≡ Some order
      → slice_get marks i ≡ Some (is_open listed order.name)
  pub apart : AreNamedApart orders
  pub read : AreOpenOrders orders listed
