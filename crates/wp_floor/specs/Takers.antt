-- Who has the orders.
use Rattle.std.specs.Prelude.{◌≡◌, ℕ, Bool, true, false, List, length, Option, Some, if◌then◌else◌, slice_get}
use Rattle.std.specs.Prelude.{slice_set}
use Rattle.std.specs.Option.{MatchOption}
use Rattle.wp_model.specs.Tables.{AreReadOrders}
use Rattle.wp_floor.specs.Floor.{IsNumbered}
use Rattle.wp_floor.specs.declared.waves.KeptWave.{KeptWave}
use Rattle.wp_model.specs.Opening.{Opening, Order}
use Rattle.wp_model.specs.Step.{is_among}
use Rattle.wp_model.specs.declared.reply.Reply.{Reply}
use Rattle.wp_model.specs.declared.reply.Reply.TheVariants as reply

-- some orders now have this taker, or none, and all others the one that they had
pub record HasPut (opening : Opening) (orders : List (List ℕ)) (taker : Option (List ℕ))
    (old new : List (Option (List ℕ))) : Type 0 where
  pub count : length new ≡ length old
  pub each : (i : ℕ) (order : Order) → slice_get opening.orders i ≡ Some order
      → slice_get new i ≡ (if is_among orders order.name then Some taker else slice_get old i)

-- the order with a number, where there is one, now has this taker, or none
abbrev pub IsPutAt : Option ℕ → Option (List ℕ) → List (Option (List ℕ)) → List (Option (List ℕ)) → Type 0
IsPutAt number taker old new = MatchOption number (new ≡ old) (λ number. new ≡ slice_set old number taker)

-- each order that was read may have a taker, and a wave has the numbers of its orders
pub record HaveTakers (opening : Opening) (kept : KeptWave) (takers : List (Option (List ℕ))) : Type 0 where
  pub read : AreReadOrders opening.stock.articles opening.orders
  pub count : length takers ≡ length opening.orders
  pub numbered : IsNumbered opening kept

-- the reply by which a wave's orders are free
abbrev pub frees : Reply → Bool
frees reply.Cancelled = true
frees other = false
