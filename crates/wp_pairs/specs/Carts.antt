-- Carts that hold a number of units, and what the orders of a wave load.
use Rattle.std.specs.Prelude.{◌≡◌, ℕ, ◌-◌, ◌≤◌, List, ◌++◌, All, IfSome, None, Option, Some, length, replicate}
use Rattle.std.specs.Prelude.{slice_index, sum_by, take}
use Rattle.wp_model.specs.Tables.{IsCart}

-- how many units a cart holds, and what each order of a wave loads
pub record LoadedCart : Type 0 where
  pub units : ℕ
  pub loads : List ℕ

-- its units are those of a cart, for 1 to 64 orders, none of which loads more
pub record IsLoadedCart (cart : LoadedCart) : Type 0 where
  pub units : IsCart cart.units
  pub some_orders : 1 ≤ length cart.loads
  pub most_orders : length cart.loads ≤ 64
  pub light : All (λ load. load ≤ cart.units) cart.loads

-- what the orders of a batch load, all together
abbrev pub load_of : List ℕ → List ℕ → ℕ
load_of loads batch = sum_by (slice_index loads) batch

-- a batch fits a cart where its orders load no more than the units
abbrev pub FitsCart : LoadedCart → List ℕ → Type 0
FitsCart cart batch = load_of cart.loads batch ≤ cart.units

-- where there is a cart, a batch fits it
abbrev pub FitsAnyCart : Option LoadedCart → List ℕ → Type 0
FitsAnyCart cart batch = IfSome cart (λ held. FitsCart held batch)

-- what the orders of a batch load, all together; where there is no cart, nothing
abbrev pub any_load : Option LoadedCart → List ℕ → ℕ
any_load None batch = 0
any_load (Some held) batch = load_of held.loads batch

-- where there is a cart, it holds so many units
abbrev pub Carries : Option LoadedCart → ℕ → Type 0
Carries cart load = IfSome cart (λ held. load ≤ held.units)

-- where there is a cart, it is one for so many orders
abbrev pub IsCartFor : Option LoadedCart → ℕ → Type 0
IsCartFor cart orders = IfSome cart (λ held. IsLoadedCart held × (length held.loads ≡ orders))

-- the loads of up to 64 orders, with zeros behind them
abbrev pub padded : List ℕ → List ℕ
padded loads = loads ++ replicate (64 - length loads) 0

-- so many words keep the loads, and the others are 0
pub record KeepsLoads (count : ℕ) (words : List ℕ) : Type 0 where
  pub words_are : words ≡ padded (take count words)
  pub count_is : count ≡ length (take count words)
  pub few : count ≤ 64
