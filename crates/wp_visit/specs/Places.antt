-- The places that a visit comes to.
use Rattle.std.specs.Prelude.{◌≡◌, ℕ, ◌+◌, ◌*◌, ◌^◌, ◌≤◌, ◌⊎◌, ◌↔◌, List, [], Contains, length}
use Rattle.wp_pairs.specs.Carts.{any_load}
use Rattle.wp_pairs.specs.Kept.{IsPairing}
use Rattle.wp_pairs.specs.Permitted.{AreParted, IsPermitted, Pairing}
use Rattle.wp_lengths.specs.Waves.{WavePicks}
use Rattle.wp_lengths.specs.Duals.{duals_of}
use Rattle.wp_lengths.specs.Visits.{AddsItem, IsItem}
use Rattle.wp_visit.specs.declared.item.Item.{Item}
use Rattle.wp_visit.specs.declared.place.Place.{Place}
use Rattle.wp_visit.specs.Items.{AreBounded, AreItemsBelow, AreReachesBelow, most_dual}

-- what is visited: a wave, its pairs and the duals of its orders
pub record Task : Type 0 where
  pub wave : WavePicks
  pub pairing : Pairing
  pub duals : List ℕ

-- as many orders in the pairs as in the wave and the same cart, a bounded dual for each order, what each brings, and
-- the reaches of all items
pub record IsTask (task : Task) (items : List Item) (reaches : List ℕ) : Type 0 where
  pub orders : task.pairing.orders ≡ length task.wave.orders
  pub cart : task.pairing.cart ≡ task.wave.cart
  pub count : length task.duals ≡ task.pairing.orders
  pub duals : AreBounded task.duals
  pub valid : IsPairing task.pairing
  pub filled : length items ≡ task.pairing.orders
  pub each : AreItemsBelow task.pairing task.duals task.pairing.orders items
  pub whole : AreReachesBelow task.pairing task.duals 0 (task.pairing.capacity + 1) reaches

-- what a visit comes to: no order, or a permitted batch
abbrev pub IsReached : Pairing → List ℕ → Type 0
IsReached pairing batch = (batch ≡ []) ⊎ IsPermitted pairing batch

-- an order is parted from one of a batch
pub record IsBlocked (pairing : Pairing) (batch : List ℕ) (order : ℕ) : Type 0 where
  pub by : ℕ
  pub has : Contains batch by
  pub parted : AreParted pairing.pairs by order

-- a place says of its batch what it has in orders, units and duals, what it blocks, and of which two parts it came
pub record IsAt (task : Task) (place : Place) : Type 0 where
  pub reached : IsReached task.pairing place.batch
  pub from : place.from ≤ task.pairing.orders
  pub size : place.size ≡ length place.batch
  pub fits : place.size ≤ task.pairing.capacity
  pub load : place.load ≡ any_load task.pairing.cart place.batch
  pub light : place.load ≤ 2 ^ 38 * place.size
  pub sum : place.sum ≡ duals_of task.duals place.batch
  pub small : place.sum ≤ most_dual * place.size
  pub blocked : (order : ℕ) → Contains place.blocked order ↔ IsBlocked task.pairing place.batch order
  pub both : (order : ℕ) → Contains place.batch order ↔ (Contains place.before order ⊎ Contains place.added order)

-- an order adds nothing: the place has it, or it names no item, or with the place that makes no permitted batch
abbrev pub IsNoChild : Pairing → List ℕ → ℕ → Type 0
IsNoChild pairing place order =
    Contains place order ⊎ ((IsItem pairing order
    → ⊥) ⊎ ((batch : List ℕ) × AddsItem pairing place order batch × (IsPermitted pairing batch → ⊥)))
