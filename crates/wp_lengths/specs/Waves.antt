-- Waves: a layout, what each order picks there, and a cart with what each loads, if there is one.
use Rattle.std.specs.Prelude.{◌≡◌, ℕ, ◌<◌, ◌≤◌, ◌↔◌, List, [], All, Contains, Option, length, slice_index_or}
use Rattle.wp_model.specs.declared.point.Point.{Point}
use Rattle.wp_model.specs.Warehouse.{Layout}
use Rattle.wp_graph.specs.PickSets.{PickSet}
use Rattle.wp_pairs.specs.Carts.{IsCartFor, LoadedCart}

-- a wave: its layout, for each order the slots at which it picks, and the cart that its batches are to fit, if there is
-- one
pub record WavePicks : Type 0 where
  pub layout : Layout
  pub orders : List PickSet
  pub cart : Option LoadedCart

-- the slots at which an order picks
abbrev pub picks_of : WavePicks → ℕ → List Point
picks_of wave order = (slice_index_or wave.orders order (record { layout = wave.layout; points = [] })).points

-- a wave has 1 to 64 orders, each picks at slots of the wave's layout, at one or more, and a cart has a load for each
-- order
pub record IsWave (wave : WavePicks) : Type 0 where
  pub some : 1 ≤ length wave.orders
  pub most : length wave.orders ≤ 64
  pub of_layout : All (λ picks. picks.layout ≡ wave.layout) wave.orders
  pub filled : All (λ picks. 0 < length picks.points) wave.orders
  pub cart : IsCartFor wave.cart (length wave.orders)

-- two lists of orders' picks: the same number of orders, and each picks at the same slots
pub record HaveSamePicks (left right : List PickSet) : Type 0 where
  pub count : length left ≡ length right
  pub each : (order : ℕ) (d : PickSet) → order < length left → (p : Point)
      → (Contains (slice_index_or left order d).points p ↔ Contains (slice_index_or right order d).points p)
