-- What the orders of a wave that went out load.
use Rattle.std.specs.Prelude.{◌≡◌, ℕ, ◌<◌, ◌≤◌, ◌==◌, if◌then◌else◌, IfSome, List, None, Option, Some, length}
use Rattle.std.specs.Prelude.{slice_index, sum_by}
use Rattle.wp_model.specs.declared.row.Hold.{Hold}
use Rattle.wp_machine.specs.declared.outcome.WaveHolds.{WaveHolds}
use Rattle.wp_pairs.specs.Carts.{LoadedCart}

-- the units of a hold, where it is for the order
abbrev pub units_for : ℕ → Hold → ℕ
units_for order hold = if hold.order == order then hold.quantity else 0

-- what an order loads: all units that are held for it, in whatever rows
abbrev pub load_for : List Hold → ℕ → ℕ
load_for holds order = sum_by (units_for order) holds

-- where carts hold so many units, no order loads more
abbrev pub AreLight : Option ℕ → List Hold → Type 0
AreLight units holds = IfSome units (λ most. (order : ℕ) → load_for holds order ≤ most)

-- a cart of so many units with what each order of a wave loads
pub record IsLoadedBy (released : WaveHolds) (units : ℕ) (cart : LoadedCart) : Type 0 where
  pub holds_units : cart.units ≡ units
  pub count : length cart.loads ≡ length released.orders
  pub loads : (order : ℕ) → order < length released.orders
      → slice_index cart.loads order ≡ load_for released.holds order

-- where carts hold so many units, there is such a cart, and else there is none
abbrev pub IsCartOf : Option ℕ → WaveHolds → Option LoadedCart → Type 0
IsCartOf None released cart = cart ≡ None
IsCartOf (Some units) released cart = (held : LoadedCart) × (cart ≡ Some held) × IsLoadedBy released units held
