-- Waves of the orders that have the same key.
use Rattle.std.specs.Prelude.{◌≡◌, ℕ, ◌+◌, ◌<◌, ◌==◌, ◌++◌, List, [], ◌∷◌, length, map, Option, Some, None}
use Rattle.std.specs.Prelude.{option_map, slice_get}
use Rattle.std.specs.Prelude.{if◌then◌else◌, Bool, Vec, nat_lt}
use Rattle.std.specs.List.{list_all}
use Rattle.std.specs.declared.alloc.Global.{Global}
use Rattle.wp_waves.specs.Filling.{waves_kept}
use Rattle.wp_waves.specs.declared.open_orders.OpenOrder.{OpenOrder}

-- a wave that is gathered: the key of its orders, and the orders
pub record Gathered : Type 0 where
  pub key : ℕ
  pub orders : List OpenOrder

-- an order joins the wave of its key, or begins it after the others where there is none
abbrev pub joined : ℕ → OpenOrder → List Gathered → List Gathered
joined key one [] = (record { key = key; orders = one ∷ [] }) ∷ []
joined key one (wave ∷ waves) =
    if wave.key == key then (record { key = key; orders = wave.orders ++ one ∷ [] }) ∷ waves
    else wave ∷ joined key one waves

-- orders with their keys, one after the other, join waves
abbrev pub all_joined : List Gathered → List OpenOrder → List ℕ → List Gathered
all_joined waves [] keys = waves
all_joined waves (one ∷ served) [] = waves
all_joined waves (one ∷ served) (key ∷ keys) = all_joined (joined key one waves) served keys

-- the orders of each wave
abbrev pub orders_of : List Gathered → List (List OpenOrder)
orders_of = map (λ (wave : Gathered). wave.orders)

-- served orders by their keys: those of equal keys make a wave, and stand in it as they were served; waves stand in the
-- order in which their first order was served
abbrev pub waves_by_key : List OpenOrder → List ℕ → List (List OpenOrder)
waves_by_key served keys = orders_of (all_joined [] served keys)

-- where the wave of a key stands, none where no order has the key
abbrev pub place_of : ℕ → List Gathered → Option ℕ
place_of key [] = None
place_of key (wave ∷ waves) = if wave.key == key then Some 0 else option_map (λ i. i + 1) (place_of key waves)

-- waves as they are kept, and for each key the place of its wave
pub record AreKept (gathered : List Gathered) (waves : List (Vec OpenOrder Global))
    (places : List (Option ℕ)) : Type 0 where
  pub waves_are : waves_kept waves ≡ orders_of gathered
  pub places_are : (key : ℕ) → key < length places → slice_get places key ≡ Some (place_of key gathered)

-- some waves are kept so
abbrev pub IsKeptSo : List (Vec OpenOrder Global) → List (Option ℕ) → Type 0
IsKeptSo waves places = (gathered : List Gathered) × AreKept gathered waves places

-- each key is below a number
abbrev pub are_small : ℕ → List ℕ → Bool
are_small count = list_all (λ key. nat_lt key count)
