-- The waves that have the orders.
use Rattle.std.proofs.Common.{◌≡◌, ◌∙◌, sym, ap, ℕ, true, false, List, map, Option, Some, None, slice_get}
use Rattle.wp_model.proofs.Elements.{All-at, at_some}
use Rattle.wp_model.specs.Opening.{Opening, Order, is_known_order}
use Rattle.wp_model.specs.Sound.{IsSound, IsSoundWave}
use Rattle.wp_model.specs.State.{State}
use Rattle.wp_model.specs.Step.{taker_of}
use Rattle.wp_model.specs.TableLines.{article_in}
use Rattle.wp_tables.specs.Orders.{name_of}
use Rattle.wp_floor.specs.Floor.{IsFloor, state_of}
use Rattle.wp_floor.specs.declared.floor.Floor.{Floor}
use Rattle.wp_floor.proofs.Floors.{no_taker}
use Rattle.wp_floor.proofs.OrderFaults.{unknown}
use Rattle.wp_floor.proofs.OrderNames.{no_order, order_at}

-- no wave has an order that the opening hasn't
pub unknown_taker : (opening : Opening) (state : State) (order : List ℕ) → IsSound opening state → is_known_order opening.orders order ≡ false
    → taker_of state.waves order ≡ None
unknown_taker opening state order sound unknown =
    no_taker state.waves order (λ i k v there live has.
    let is = at_some (slice_get state.waves i) (IsSoundWave opening state i) v there (sound.waves i) in
    let known : is_known_order opening.orders order ≡ true =
    All-at (λ o. is_known_order opening.orders o ≡ true) v.orders k order is.known has in
    let c : true ≡ false = sym known ∙ unknown in absurd (cc))

-- what isn't found by a name among the orders that were read isn't found among the opening's
pub none_in : (opening : Opening) (orders : List Order) (name : List ℕ) (found : Option ℕ) → orders ≡ opening.orders
    → found ≡ article_in (map name_of orders) name → found ≡ None → article_in (map name_of opening.orders) name ≡ None
none_in opening orders name found same is none = ap (λ os. article_in (map name_of os) name) (sym same) ∙ (sym is ∙ none)

-- an order that isn't found has no taker
pub not_found_taker : (opening : Opening) (floor : Floor) (order : List ℕ) → IsFloor opening floor → article_in (map name_of opening.orders) order ≡ None
    → None ≡ taker_of (state_of floor).waves order
not_found_taker opening floor order is none =
    sym (unknown_taker opening (state_of floor) order is.sound (unknown opening.orders order (no_order opening.orders order none)))

-- the taker of an order that is found stands at its number
pub found_taker : (opening : Opening) (floor : Floor) (order : List ℕ) (number : ℕ) (taker : Option (List ℕ)) → IsFloor opening floor
    → article_in (map name_of opening.orders) order ≡ Some number → slice_get floor.takers.items number ≡ Some taker
    → taker ≡ taker_of (state_of floor).waves order
found_taker opening floor order number taker is found has =
    let at = order_at opening.orders order number found in
    let both : Some taker ≡ Some (taker_of (state_of floor).waves at.order.name) = sym has ∙ is.takers.each number at.order at.there in
    same_of taker (taker_of (state_of floor).waves at.order.name) both ∙ ap (taker_of (state_of floor).waves) at.named
  where
    same_of : (a b : Option (List ℕ)) → Some a ≡ Some b → a ≡ b
    same_of a b e = cc
