-- What an order brings to a place while the batches are visited. Duals are in any unit here.
use Rattle.std.specs.Prelude.{◌≡◌, ℕ, ◌+◌, ◌-◌, ◌*◌, ◌^◌, ◌<◌, ◌≤◌, ◌⊎◌, ◌↔◌, true, false, List, All, Contains, length}
use Rattle.std.specs.Prelude.{slice_index, slice_index_or}
use Rattle.std.specs.List.Sorted.{IsStrictlyIncreasing}
use Rattle.wp_pairs.specs.Carts.{any_load}
use Rattle.wp_pairs.specs.Permitted.{AreJoined, AreParted, IsPermitted, Pairing}
use Rattle.wp_lengths.specs.Duals.{duals_of}
use Rattle.wp_lengths.specs.Reaches.{HaveMost}
use Rattle.wp_lengths.specs.Visits.{IsItem}
use Rattle.wp_visit.specs.declared.item.Item.{Item}

-- the greatest number that a dual may be, in whatever unit
abbrev pub most_dual : ℕ
most_dual = 2 ^ 57

-- no dual is above it
abbrev pub AreBounded : List ℕ → Type 0
AreBounded duals = All (λ dual. dual ≤ most_dual) duals

-- the most that so many orders, all of items from an order on, have in duals
abbrev pub IsMost : Pairing → List ℕ → ℕ → ℕ → ℕ → Type 0
IsMost pairing duals from room most = (taken : List ℕ) × HaveMost pairing duals from room taken
    × (duals_of duals taken ≡ most)

-- the most of each number of orders below an end
abbrev pub AreReachesBelow : Pairing → List ℕ → ℕ → ℕ → List ℕ → Type 0
AreReachesBelow pairing duals from end reaches = (room : ℕ) → room < end
    → IsMost pairing duals from room (slice_index reaches room)

-- for each order from the number of orders down, the reaches of the items from it on
abbrev pub AreReachesFrom : Pairing → List ℕ → List (List ℕ) → Type 0
AreReachesFrom pairing duals all = (passed : ℕ) (d : List ℕ) → passed < length all
    → AreReachesBelow pairing duals (pairing.orders - passed) (pairing.capacity + 1) (slice_index_or all passed d)

-- an order that names an item which is a permitted batch, and what that loads and has in duals
pub record IsUsable (pairing : Pairing) (duals : List ℕ) (order : ℕ) (item : Item) : Type 0 where
  pub names : IsItem pairing order
  pub permitted : IsPermitted pairing item.class
  pub size : item.size ≡ length item.class
  pub load : item.load ≡ any_load pairing.cart item.class
  pub light : item.load ≤ 2 ^ 38
  pub sum : item.sum ≡ duals_of duals item.class
  pub small : item.sum ≤ most_dual * item.size

-- the orders that are joined to an order, those that are parted from it, and whether it is usable; and the reaches of
-- the items after it
pub record IsItemOf (pairing : Pairing) (duals : List ℕ) (order : ℕ) (item : Item) : Type 0 where
  pub class : (other : ℕ) → Contains item.class other ↔ AreJoined pairing.pairs order other
  pub ascending : IsStrictlyIncreasing item.class
  pub parted : (other : ℕ) → Contains item.parted other ↔ AreParted pairing.pairs order other
  pub used : item.usable ≡ true → IsUsable pairing duals order item
  pub unused : item.usable ≡ false → (IsItem pairing order → ⊥) ⊎ (IsPermitted pairing item.class → ⊥)
  pub reaches : AreReachesBelow pairing duals (order + 1) (pairing.capacity + 1) item.reach

-- each order below an end has what it brings
abbrev pub AreItemsBelow : Pairing → List ℕ → ℕ → List Item → Type 0
AreItemsBelow pairing duals end items = (order : ℕ) (d : Item) → order < end
    → IsItemOf pairing duals order (slice_index_or items order d)
