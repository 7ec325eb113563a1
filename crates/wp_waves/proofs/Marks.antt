-- The marks of the orders that open orders are of.
use Rattle.std.proofs.Common.{◌≡◌, ◌≢◌, ◌∙◌, refl, sym, ap, ap₂, ℕ, zero, suc, ◌<◌, ◌||◌, Bool, true, false, inl, inr, List, [], ◌∷◌, ◌++◌, length, map}
use Rattle.std.proofs.Common.{Some, arith, length-set, replicate}
use Rattle.std.proofs.lemmas.Bool.{cases_eq}
use Rattle.std.proofs.lemmas.List.{get_or-replicate, length-replicate, map-append}
use Rattle.std.proofs.lemmas.List.Elements.{All-nil, All-push}
use Rattle.std.proofs.lemmas.List.Folds.{list_any-append}
use Rattle.std.proofs.lemmas.Option.{same_Some, slice_get-get_or, slice_get_within}
use Rattle.std.proofs.lemmas.Slice.Eq.{bytes_eq-Decides}
use Rattle.std.specs.Prelude.{slice_get, slice_set, IsTrue}
use Rattle.std.specs.Str.{bytes_eq}
use Rattle.wp_model.proofs.Elements.{slice_get-push, slice_get-set_other, slice_get-set_same}
use Rattle.wp_model.specs.Opening.{Order}
use Rattle.wp_model.specs.Sound.{AreDifferent}
use Rattle.wp_waves.specs.OpenFile.{is_open}
use Rattle.wp_waves.specs.OpenOrders.{AreMarked, AreNamedApart, AreOpenOrders, IsOpenOrder, MayFollow, order_of}
use Rattle.wp_waves.specs.declared.open_orders.OpenOrder.{OpenOrder}
use Rattle.wp_waves.proofs.OrderNames.{IsFoundAt}

-- no order is marked at first
pub no_marks : (orders : List Order) (n : ℕ) → n ≡ length orders → AreNamedApart orders → AreMarked orders [] (replicate n false)
no_marks orders n long apart = record {
  count = length-replicate n false ∙ long;
  each = λ i order there.
      let marks = replicate n false in
      let within : i < length marks = omega (arith, length-replicate n false, slice_get_within orders i order there) in
      slice_get-get_or marks i false within ∙ ap Some (get_or-replicate n i false false (omega (arith, slice_get_within orders i order there)));
  apart = apart;
  read = record { each = All-nil (IsOpenOrder orders); different = λ i j x at_i at_j. absurd (cc at_i) };
}

or_right : (a b : Bool) → b ≡ true → (a || b) ≡ true
or_right true b e = refl
or_right false b e = e

or_none : (a b : Bool) → b ≡ false → (a || b) ≡ a
or_none true b e = refl
or_none false b e = e

is_false : (b : Bool) → (b ≡ true → ⊥) → b ≡ false
is_false true to = absurd (to refl)
is_false false to = refl

-- one more is open
open_more : (listed : List OpenOrder) (one : OpenOrder) (name : List ℕ) → is_open (listed ++ one ∷ []) name
    ≡ (is_open listed name || (bytes_eq one.order name || false))
open_more listed one name = list_any-append (λ (other : OpenOrder). bytes_eq other.order name) listed (one ∷ [])

-- the name of an open order is that of one
open_at : (listed : List OpenOrder) (name : List ℕ) (j : ℕ) → slice_get (map order_of listed) j ≡ Some name → is_open listed name ≡ true
open_at [] name j at = absurd (cc at)
open_at (one ∷ listed) name zero at =
    let same : one.order ≡ name = cc at in
    ap (λ b. b || is_open listed name) ((bytes_eq-Decides one.order name).1 same)
open_at (one ∷ listed) name (suc j) at = or_right (bytes_eq one.order name) (is_open listed name) (open_at listed name j at)

new_name : (listed : List OpenOrder) (name other : List ℕ) (j : ℕ) → is_open listed name ≡ false → slice_get (map order_of listed) j ≡ Some other
    → other ≢ name
new_name listed name other j new at same =
    let is : is_open listed name ≡ true = open_at listed name j (at ∙ ap Some same) in
    let both : true ≡ false = sym is ∙ new in
    cc both

still_different : (listed : List OpenOrder) (one : OpenOrder) → AreDifferent (map order_of listed) → is_open listed one.order ≡ false
    → AreDifferent (map order_of (listed ++ one ∷ []))
still_different listed one different new i j x at_i at_j =
    let names = map order_of listed in
    let more : map order_of (listed ++ one ∷ []) ≡ names ++ one.order ∷ [] = map-append order_of listed (one ∷ []) in
    let in_i = slice_get-push names i x one.order (ap (λ (l : List (List ℕ)). slice_get l i) (sym more) ∙ at_i) in
    let in_j = slice_get-push names j x one.order (ap (λ (l : List (List ℕ)). slice_get l j) (sym more) ∙ at_j) in
    elim in_i [
      | inl before_i ↦ elim in_j [
        | inl before_j ↦ different i j x before_i before_j
        | inr last_j ↦ absurd (new_name listed one.order x i new before_i last_j.1)
      ]
      | inr last_i ↦ elim in_j [
        | inl before_j ↦ absurd (new_name listed one.order x j new before_j last_i.1)
        | inr last_j ↦ last_i.0 ∙ sym last_j.0
      ]
    ]

-- the order of a further open order is marked
pub marked : (orders : List Order) (listed : List OpenOrder) (marks : List Bool) (one : OpenOrder) (number : ℕ) → AreMarked orders listed marks
    → MayFollow orders listed one → IsFoundAt orders one.order number → AreMarked orders (listed ++ one ∷ []) (slice_set marks number true)
marked orders listed marks one number are follows found = record {
  count = length-set marks number true ∙ are.count;
  each = λ i order there. elim (cases_eq i number) [
    | inl here ↦
        let at : slice_get orders number ≡ Some order = ap (slice_get orders) (sym here) ∙ there in
        let same : order ≡ found.order = same_Some order found.order (sym at ∙ found.there) in
        let named : one.order ≡ order.name = sym (ap (λ (o : Order). o.name) same ∙ found.named) in
        let is = (bytes_eq-Decides one.order order.name).1 named in
        let open' : is_open (listed ++ one ∷ []) order.name ≡ true =
        open_more listed one order.name ∙ or_right (is_open listed order.name) _ (ap (λ b. b || false) is) in
        ap (slice_get (slice_set marks number true)) here
        ∙ (slice_get-set_same marks number true (omega (arith, are.count, found.within)) ∙ ap Some (sym open'))
    | inr other ↦
        let differs : bytes_eq one.order order.name ≡ false =
        is_false (bytes_eq one.order order.name) (λ e.
        other (are.apart i number order found.order there found.there
        (sym ((bytes_eq-Decides one.order order.name).0 e) ∙ sym found.named))) in
        slice_get-set_other marks number i true other
        ∙ (are.each i order there ∙ ap Some (sym (open_more listed one order.name
        ∙ or_none (is_open listed order.name) _ (ap (λ b. b || false) differs))))
  ];
  apart = are.apart;
  read = record {
    each = All-push (IsOpenOrder orders) listed one are.read.each follows.is;
    different = still_different listed one are.read.different follows.new;
  };
}
