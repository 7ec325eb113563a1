-- Orders that are to go together or apart, and the batches that this permits (Ryan and Foster, 1981).
use Rattle.std.specs.Prelude.{◌≡◌, ℕ, ◌<◌, ◌≤◌, Bool, true, false, ◌⊎◌, ◌↔◌, List, All, Contains, Option, length}
use Rattle.std.specs.List.Sorted.{IsStrictlyIncreasing}
use Rattle.wp_pairs.specs.declared.pair.OrderPair.{OrderPair}
use Rattle.wp_pairs.specs.Carts.{FitsAnyCart, LoadedCart}

-- the number of orders of a wave, how many of them a batch may have, the cart with their loads, if there is one, and
-- the pairs that were added, in the order of adding
pub record Pairing : Type 0 where
  pub orders : ℕ
  pub capacity : ℕ
  pub cart : Option LoadedCart
  pub pairs : List OrderPair

-- a batch has some orders of the wave, no more than the capacity, which load no more than a cart holds, both or none of
-- each together pair, and not both of any apart pair
pub record IsPermitted (pairing : Pairing) (batch : List ℕ) : Type 0 where
  pub ascending : IsStrictlyIncreasing batch
  pub filled : 0 < length batch
  pub fits : length batch ≤ pairing.capacity
  pub light : FitsAnyCart pairing.cart batch
  pub known : All (λ order. order < pairing.orders) batch
  pub together : (pair : OrderPair) → Contains pairing.pairs pair → pair.together ≡ true
      → (Contains batch pair.first ↔ Contains batch pair.second)
  pub apart : (pair : OrderPair) → Contains pairing.pairs pair → pair.together ≡ false
      → (Contains batch pair.first × Contains batch pair.second) → ⊥

-- these two orders were added as a pair of this kind, one way or the other
pub record ArePair (pairs : List OrderPair) (together : Bool) (left right : ℕ) : Type 0 where
  pub pair : OrderPair
  pub added : Contains pairs pair
  pub kind : pair.together ≡ together
  pub both : ((pair.first ≡ left) × (pair.second ≡ right)) ⊎ ((pair.first ≡ right) × (pair.second ≡ left))

-- a chain of together pairs leads from one order to the other; each order is joined to itself
pub data AreJoined (pairs : List OrderPair) : ℕ → ℕ → Type 0 where
  itself : {order : ℕ} → AreJoined pairs order order
  onward : {order next last : ℕ} → ArePair pairs true order next → AreJoined pairs next last
      → AreJoined pairs order last

-- an apart pair lies between an order that is joined to the one and an order that is joined to the other
pub record AreParted (pairs : List OrderPair) (left right : ℕ) : Type 0 where
  pub near : ℕ
  pub far : ℕ
  pub joined : AreJoined pairs left near
  pub apart : ArePair pairs false near far
  pub joins : AreJoined pairs far right

-- the pairs that were added tell of these two orders whether they go together or apart
abbrev pub AreDecided : List OrderPair → ℕ → ℕ → Type 0
AreDecided pairs left right = AreJoined pairs left right ⊎ AreParted pairs left right

-- two orders of the wave, the lower first, of which the pairs don't tell
pub record AreUndecided (pairing : Pairing) (first second : ℕ) : Type 0 where
  pub order : first < second
  pub known : second < pairing.orders
  pub open_ : AreDecided pairing.pairs first second → ⊥

-- all pairs of orders that come before this one are decided: those with a lower first order, and those with the same
-- first and a lower second
pub record AreDecidedBefore (pairing : Pairing) (first second : ℕ) : Type 0 where
  pub lower_first : (left right : ℕ) → left < first → left < right → right < pairing.orders
      → AreDecided pairing.pairs left right
  pub lower_second : (right : ℕ) → first < right → right < second → AreDecided pairing.pairs first right

-- all pairs of orders are decided
abbrev pub AllDecided : Pairing → Type 0
AllDecided pairing = (left right : ℕ) → left < right → right < pairing.orders → AreDecided pairing.pairs left right

-- some permitted batch has the order
abbrev pub IsHeld : Pairing → ℕ → Type 0
IsHeld pairing order = (batch : List ℕ) × IsPermitted pairing batch × Contains batch order

-- an order of the wave that no permitted batch has
pub record IsDead (pairing : Pairing) (order : ℕ) : Type 0 where
  pub known : order < pairing.orders
  pub unheld : (batch : List ℕ) → IsPermitted pairing batch → Contains batch order → ⊥

-- each order below this one is in some permitted batch
abbrev pub AreHeldBelow : Pairing → ℕ → Type 0
AreHeldBelow pairing order = (lower : ℕ) → lower < order → IsHeld pairing lower
