-- What carts walk for a wave, however its orders are put into batches.
use Rattle.std.specs.Prelude.{◌≡◌, ℕ, ◌+◌, ◌<◌, ◌≤◌, List, [], ◌∷◌, All, length, map, nat_eq, slice_index_or}
use Rattle.std.specs.List.{count_by, flat_map}
use Rattle.wp_model.specs.declared.point.Point.{Point}
use Rattle.wp_model.specs.Tours.{IsTour}
use Rattle.wp_model.specs.Warehouse.{Layout}
use Rattle.wp_pairs.specs.Carts.{FitsAnyCart}
use Rattle.wp_lengths.specs.Waves.{WavePicks}

-- how often an order stands in the batches
abbrev pub times_in : List (List ℕ) → ℕ → ℕ
times_in [] order = 0
times_in (batch ∷ batches) order = count_by (nat_eq order) batch + times_in batches order

-- the orders of a wave are put into batches: none is empty, none has more orders than the capacity, each order stands
-- in exactly one, once, and each fits the wave's cart, if it has one
pub record ArePutIntoBatches (wave : WavePicks) (capacity : ℕ) (batches : List (List ℕ)) : Type 0 where
  pub filled : All (λ batch. 0 < length batch) batches
  pub fits : All (λ batch. length batch ≤ capacity) batches
  pub known : All (λ batch. All (λ order. order < length wave.orders) batch) batches
  pub light : All (FitsAnyCart wave.cart) batches
  pub once : (order : ℕ) → order < length wave.orders → times_in batches order ≡ 1

-- the picks of a batch, order by order; an order is the list of the points at which it picks
abbrev pub picks_in : List (List Point) → List ℕ → List Point
picks_in orders batch = flat_map (λ order. slice_index_or orders order []) batch

-- a cart for each batch takes some closed walk past the picks of its batch, and the walks are together so long
abbrev pub AreWalked : Layout → List (List Point) → List (List ℕ) → ℕ → Type 0
AreWalked layout orders [] total = total ≡ 0
AreWalked layout orders (batch ∷ batches) total
    = (points : List Point) × (first : ℕ) × (rest : ℕ) × IsTour layout (picks_in orders batch) points first
    × AreWalked layout orders batches rest × (total ≡ first + rest)

-- the lists of points at which the orders of a wave pick
abbrev pub order_points : WavePicks → List (List Point)
order_points wave = map (λ picks. picks.points) wave.orders

-- however the orders of a wave are put into batches within the capacity and its cart, and whatever closed walk each
-- cart takes past the picks of its batch, the walks are together no shorter than this
abbrev pub NoWalksAreShorter : WavePicks → ℕ → ℕ → Type 0
NoWalksAreShorter wave capacity bound = (batches : List (List ℕ)) (total : ℕ) → ArePutIntoBatches wave capacity batches
    → AreWalked wave.layout (order_points wave) batches total → bound ≤ total
