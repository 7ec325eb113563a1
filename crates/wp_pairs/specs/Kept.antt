-- What is kept of the pairs that were added: for each order the orders that are joined to it, and those that are parted
-- from it.
use Rattle.std.specs.Prelude.{◌≡◌, ℕ, zero, suc, ◌+◌, ◌<◌, ◌≤◌, ◌↔◌, ◌⊎◌, List, [], Contains, length, map}
use Rattle.std.specs.Prelude.{slice_index_or, nat_eq}
use Rattle.std.specs.List.{IsDistinct}
use Rattle.wp_pairs.specs.declared.pair.OrderPair.{OrderPair}
use Rattle.wp_pairs.specs.Carts.{FitsAnyCart, IsCartFor}
use Rattle.wp_pairs.specs.Permitted.{AreJoined, AreParted, Pairing}

-- 1 to 64 orders, a capacity of 1 to 8, a cart for as many orders, if there is one, and pairs of orders of the wave,
-- the lower first
pub record IsPairing (pairing : Pairing) : Type 0 where
  pub some_orders : 1 ≤ pairing.orders
  pub most_orders : pairing.orders ≤ 64
  pub some_capacity : 1 ≤ pairing.capacity
  pub most_capacity : pairing.capacity ≤ 8
  pub cart : IsCartFor pairing.cart pairing.orders
  pub order : (pair : OrderPair) → Contains pairing.pairs pair → pair.first < pair.second
  pub known : (pair : OrderPair) → Contains pairing.pairs pair → pair.second < pairing.orders

-- a batch has an order, no more orders than the capacity, and fits the cart, if there is one
pub record FitsCapacity (pairing : Pairing) (batch : List ℕ) : Type 0 where
  pub filled : 1 ≤ length batch
  pub fits : length batch ≤ pairing.capacity
  pub light : FitsAnyCart pairing.cart batch

-- an order of the wave of a batch that has all orders joined to it and none that is parted from it
pub record KeepsOrder (pairing : Pairing) (batch : List ℕ) (order : ℕ) : Type 0 where
  pub known : order < pairing.orders
  pub joined : (other : ℕ) → AreJoined pairing.pairs order other → Contains batch other
  pub parted : (other : ℕ) → AreParted pairing.pairs order other → Contains batch other → ⊥

-- the orders that are listed for one
abbrev pub listed_for : List (List ℕ) → ℕ → List ℕ
listed_for rows order = slice_index_or rows order []

-- the sum of the numbers below this one: the number of pairs of so many orders
abbrev pub pairs_of : ℕ → ℕ
pairs_of zero = 0
pairs_of (suc n) = pairs_of n + n

-- the number of a pair among all pairs of orders
abbrev pub pair_number : OrderPair → ℕ
pair_number pair = pairs_of pair.second + pair.first

-- for each order of the wave those that are joined to it and those that are parted from it are listed; no two orders
-- are both; no pair was added twice
pub record ArePartners (pairing : Pairing) (joined parted : List (List ℕ)) : Type 0 where
  pub valid : IsPairing pairing
  pub joins : (order other : ℕ) → order < pairing.orders
      → (Contains (listed_for joined order) other ↔ AreJoined pairing.pairs order other)
  pub parts : (order other : ℕ) → order < pairing.orders
      → (Contains (listed_for parted order) other ↔ AreParted pairing.pairs order other)
  pub never_both : (order other : ℕ) → AreJoined pairing.pairs order other → AreParted pairing.pairs order other → ⊥
  pub once : IsDistinct nat_eq (map pair_number pairing.pairs)

-- an order is listed for one of these two
abbrev pub IsListedForEither : List (List ℕ) → ℕ → ℕ → ℕ → Type 0
IsListedForEither rows first second order
    = Contains (listed_for rows first) order ⊎ Contains (listed_for rows second) order

-- the classes of two orders become one: its orders have all of both, and are parted from what was parted from either;
-- each of those is parted from all of the class
pub record JoinsClasses (joined joined_after parted parted_after : List (List ℕ)) (first second : ℕ) : Type 0 where
  pub class : (order other : ℕ) → order < 64 → IsListedForEither joined first second order
      → (Contains (listed_for joined_after order) other ↔ IsListedForEither joined first second other)
  pub others : (order : ℕ) → order < 64 → (IsListedForEither joined first second order → ⊥)
      → listed_for joined_after order ≡ listed_for joined order
  pub parted_class : (order other : ℕ) → order < 64 → IsListedForEither joined first second order
      → (IsListedForEither parted first second order → ⊥)
      → (Contains (listed_for parted_after order) other ↔ IsListedForEither parted first second other)
  pub away : (order other : ℕ) → order < 64 → (IsListedForEither joined first second order → ⊥)
      → IsListedForEither parted first second order
      → (Contains (listed_for parted_after order) other
      ↔ (Contains (listed_for parted order) other ⊎ IsListedForEither joined first second other))
  pub rest : (order : ℕ) → order < 64 → (IsListedForEither joined first second order → ⊥)
      → (IsListedForEither parted first second order → ⊥)
      → listed_for parted_after order ≡ listed_for parted order

-- the classes of two orders are parted: each order of the one from all of the other
pub record PartsClasses (joined parted parted_after : List (List ℕ)) (first second : ℕ) : Type 0 where
  pub of_first : (order other : ℕ) → order < 64 → Contains (listed_for joined first) order
      → (Contains (listed_for joined second) order → ⊥)
      → (Contains (listed_for parted_after order) other
      ↔ (Contains (listed_for parted order) other ⊎ Contains (listed_for joined second) other))
  pub of_second : (order other : ℕ) → order < 64 → (Contains (listed_for joined first) order → ⊥)
      → Contains (listed_for joined second) order
      → (Contains (listed_for parted_after order) other
      ↔ (Contains (listed_for parted order) other ⊎ Contains (listed_for joined first) other))
  pub rest : (order : ℕ) → order < 64 → (Contains (listed_for joined first) order → ⊥)
      → (Contains (listed_for joined second) order → ⊥)
      → listed_for parted_after order ≡ listed_for parted order
