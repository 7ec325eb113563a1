-- The open orders where there is no open file are open orders.
use Rattle.std.proofs.Common.{◌≡◌, ◌∙◌, refl, sym, ap, ℕ, zero, suc, ◌+◌, ◌≤◌, List, [], ◌∷◌, ◌++◌, append_assoc, length, map, drop}
use Rattle.std.proofs.Common.{Option, Some, None, All, Bool, true, false, arith, bytes_eq, unwrap_or}
use Rattle.std.specs.Prelude.{◌||◌, slice_get}
use Rattle.std.specs.Option.{option_map_or}
use Rattle.std.proofs.lemmas.Slice.Eq.{bytes_eq-Decides}
use Rattle.std.proofs.lemmas.List.{append-nil, drop_all}
use Rattle.std.proofs.lemmas.List.Elements.{All-cons, All-head, All-nil, All-tail}
use Rattle.wp_model.proofs.Elements.{All-from_at}
use Rattle.wp_model.specs.Opening.{Order, is_known_order}
use Rattle.wp_model.specs.Sound.{AreDifferent}
use Rattle.wp_model.specs.State.{Wave}
use Rattle.wp_model.specs.Step.{taker_of}
use Rattle.wp_sending.specs.Untaken.{with_untaken}
use Rattle.wp_tables.specs.Orders.{name_of}
use Rattle.wp_waves.specs.OpenFile.{open_without, whole_group}
use Rattle.wp_waves.specs.OpenOrders.{AreNamedApart, AreOpenOrders, IsOpenOrder, order_of}
use Rattle.wp_waves.specs.declared.open_orders.OpenOrder.{OpenOrder}

-- an order more is looked at
untaken_if : (waves : List Wave) (rest : List Order) (order : Order) (listed : List OpenOrder) (taker : Option (List ℕ)) → taker_of waves order.name ≡ taker
    → with_untaken listed order.name whole_group taker ++ open_without waves rest ≡ listed ++ open_without waves (order ∷ rest)
untaken_if waves rest order listed None is =
    append_assoc listed ((record { order = order.name; group = whole_group; rank = 0 }) ∷ []) (open_without waves rest) ∙ rw is refl
untaken_if waves rest order listed (Some wave) is = rw is refl

-- the order at a place, whose name is known
rest_is : (orders : List Order) (number : ℕ) (name : List ℕ) → slice_get (map name_of orders) number ≡ Some name
    → (order : Order) × (drop number orders ≡ order ∷ drop (number + 1) orders) × (name ≡ order.name)
rest_is [] number name at = absurd (cc at)
rest_is (order ∷ orders) zero name at = (order, refl, sym (ap (λ (o : Option (List ℕ)). unwrap_or o []) at))
rest_is (order ∷ orders) (suc number) name at =
    let found = rest_is orders number name at in
    let next : suc number + 1 ≡ suc (number + 1) = omega arith in
    (found.0, found.1 ∙ ap (λ (n : ℕ). found.0 ∷ drop n (order ∷ orders)) (sym next), found.2)

pub untaken_more : (waves : List Wave) (orders : List Order) (number : ℕ) (all listed next : List OpenOrder) (name : List ℕ)
    → slice_get (map name_of orders) number ≡ Some name → all ≡ listed ++ open_without waves (drop number orders)
    → next ≡ with_untaken listed name whole_group (taker_of waves name) → all ≡ next ++ open_without waves (drop (number + 1) orders)
untaken_more waves orders number all listed next name at so_far is =
    let found = rest_is orders number name at in
    let order = found.0 in
    let rest = drop (number + 1) orders in
    so_far
    ∙ (ap (λ (os : List Order). listed ++ open_without waves os) found.1
    ∙ (sym (untaken_if waves rest order listed (taker_of waves order.name) refl)
    ∙ ap (λ (l : List OpenOrder). l ++ open_without waves rest)
    (sym (is ∙ ap (λ (n : List ℕ). with_untaken listed n whole_group (taker_of waves n)) found.2))))

-- all orders were looked at
pub untaken_all : (waves : List Wave) (orders : List Order) (number : ℕ) (all listed : List OpenOrder) → length orders ≤ number
    → all ≡ listed ++ open_without waves (drop number orders) → listed ≡ all
untaken_all waves orders number all listed past so_far =
    sym (so_far ∙ (ap (λ (os : List Order). listed ++ open_without waves os) (drop_all number orders past) ∙ append-nil listed))

or_left : (a b : Bool) → a ≡ true → (a || b) ≡ true
or_left a b is = rw is refl

or_right : (a b : Bool) → b ≡ true → (a || b) ≡ true
or_right true b is = refl
or_right false b is = is

-- an order is known among its own
known_at : (orders : List Order) (k : ℕ) (order : Order) → slice_get orders k ≡ Some order → is_known_order orders order.name ≡ true
known_at [] k order at = absurd (cc at)
known_at (first ∷ orders) zero order at =
    or_left (bytes_eq first.name order.name) (is_known_order orders order.name)
    ((bytes_eq-Decides first.name order.name).1 (ap (λ (o : Option Order). option_map_or (λ (p : Order). p.name) o []) at))
known_at (first ∷ orders) (suc k) order at =
    or_right (bytes_eq first.name order.name) (is_known_order orders order.name) (known_at orders k order at)

-- where nobody has an order, it is open
one_open : (all : List Order) (order : List ℕ) → is_known_order all order ≡ true
    → IsOpenOrder all (record { order = order; group = whole_group; rank = 0 })
one_open all order known = record { known = known; group = omega arith; rank = omega arith }

abbrev IsKnown : List Order → Order → Type 0
IsKnown all order = is_known_order all order.name ≡ true

each_if : (all : List Order) (order : List ℕ) (taker : Option (List ℕ)) (rest : List OpenOrder) → is_known_order all order ≡ true
    → All (IsOpenOrder all) rest → All (IsOpenOrder all) (option_map_or (λ (wave : List ℕ). rest) taker
    ((record { order = order; group = whole_group; rank = 0 }) ∷ rest))
each_if all order None rest known others =
    All-cons (IsOpenOrder all) (record { order = order; group = whole_group; rank = 0 }) rest (one_open all order known) others
each_if all order (Some wave) rest known others = others

each_open : (all : List Order) (waves : List Wave) (orders : List Order) → All (IsKnown all) orders → All (IsOpenOrder all) (open_without waves orders)
each_open all waves [] known = All-nil (IsOpenOrder all)
each_open all waves (order ∷ orders) known =
    each_if all order.name (taker_of waves order.name) (open_without waves orders) (All-head (IsKnown all) order orders known)
    (each_open all waves orders (All-tail (IsKnown all) order orders known))

-- the order at a place has this name
pub record IsNamedIn (orders : List Order) (name : List ℕ) : Type 0 where
  pub place : ℕ
  pub order : Order
  pub at : slice_get orders place ≡ Some order
  pub named : order.name ≡ name

behind : (first : Order) (orders : List Order) (name : List ℕ) → IsNamedIn orders name → IsNamedIn (first ∷ orders) name
behind first orders name is = record { place = suc is.place; order = is.order; at = is.at; named = is.named }

named_if : (first : Order) (orders : List Order) (rest : List OpenOrder) (taker : Option (List ℕ)) (k : ℕ) (name : List ℕ)
    → ((i : ℕ) → slice_get (map order_of rest) i ≡ Some name → IsNamedIn orders name)
    → slice_get (map order_of (option_map_or (λ (wave : List ℕ). rest) taker ((record { order = first.name; group = whole_group; rank = 0 }) ∷ rest))) k
    ≡ Some name
    → IsNamedIn (first ∷ orders) name
named_if first orders rest None zero name among at = record {
  place = 0;
  order = first;
  at = refl;
  named = ap (λ (o : Option (List ℕ)). unwrap_or o []) at;
}
named_if first orders rest None (suc k) name among at = behind first orders name (among k at)
named_if first orders rest (Some wave) k name among at = behind first orders name (among k at)

-- the names of open orders are names of orders
named_in : (waves : List Wave) (orders : List Order) (k : ℕ) (name : List ℕ) → slice_get (map order_of (open_without waves orders)) k ≡ Some name
    → IsNamedIn orders name
named_in waves [] k name at = absurd (cc at)
named_in waves (order ∷ orders) k name at =
    named_if order orders (open_without waves orders) (taker_of waves order.name) k name (λ i is. named_in waves orders i name is) at

cons_different : {A : Type 0} (x : A) (xs : List A) → ((k : ℕ) → slice_get xs k ≡ Some x → ⊥) → AreDifferent xs → AreDifferent (x ∷ xs)
cons_different x xs new apart zero zero y a b = refl
cons_different x xs new apart zero (suc j) y a b = absurd (new j (b ∙ sym a))
cons_different x xs new apart (suc i) zero y a b = absurd (new i (a ∙ sym b))
cons_different x xs new apart (suc i) (suc j) y a b = ap suc (apart i j y a b)

different_if : (order : List ℕ) (taker : Option (List ℕ)) (rest : List OpenOrder) → ((k : ℕ) → slice_get (map order_of rest) k ≡ Some order → ⊥)
    → AreDifferent (map order_of rest)
    → AreDifferent (map order_of (option_map_or (λ (wave : List ℕ). rest) taker ((record { order = order; group = whole_group; rank = 0 }) ∷ rest)))
different_if order None rest new apart = cons_different order (map order_of rest) new apart
different_if order (Some wave) rest new apart = apart

apart_tail : (order : Order) (orders : List Order) → AreNamedApart (order ∷ orders) → AreNamedApart orders
apart_tail order orders apart i j a b p q same =
    let next : suc i ≡ suc j = apart (suc i) (suc j) a b p q same in
    omega (arith, next)

none_apart : AreDifferent (map order_of [])
none_apart i j x a b = absurd (cc a)

open_apart : (waves : List Wave) (orders : List Order) → AreNamedApart orders → AreDifferent (map order_of (open_without waves orders))
open_apart waves [] apart = none_apart
open_apart waves (order ∷ orders) apart =
    different_if order.name (taker_of waves order.name) (open_without waves orders)
    (λ k at.
    let is = named_in waves orders k order.name at in
    let same : 0 ≡ suc is.place = apart 0 (suc is.place) order is.order refl is.at (sym is.named) in
    omega (arith, same))
    (open_apart waves orders (apart_tail order orders apart))

-- so they are open orders of all
pub untaken_are_open : (waves : List Wave) (orders : List Order) → AreNamedApart orders → AreOpenOrders orders (open_without waves orders)
untaken_are_open waves orders apart = record {
  each = each_open orders waves orders (All-from_at (IsKnown orders) orders (λ k order at. known_at orders k order at));
  different = open_apart waves orders apart;
}
