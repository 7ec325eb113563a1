-- The orders of an opening by their names.
use Rattle.std.proofs.Common.{◌≡◌, ◌≢◌, ◌∙◌, refl, sym, ap, subst, ℕ, ◌+◌, ◌<◌, ◌||◌, Bool, true, false, inl, inr, List, [], length, map, take, get_or}
use Rattle.std.proofs.Common.{Option, Some, None, slice_get, option_map, bytes_eq, if◌then◌else◌, arith, length-set}
use Rattle.std.proofs.Math.ListN.{set}
use Rattle.std.proofs.lemmas.Bool.{cases_eq}
use Rattle.std.proofs.lemmas.List.Folds.{list_any_more, list_any_at}
use Rattle.std.proofs.lemmas.List.Sums.{passes_at_first}
use Rattle.std.proofs.lemmas.Option.{get_or_from_slice_get, slice_get-get_or, slice_get-map, slice_get_within}
use Rattle.std.proofs.lemmas.Slice.Eq.{bytes_eq-Decides}
use Rattle.wp_model.proofs.Elements.{option_map_some, slice_get-set_other, slice_get-set_same}
use Rattle.wp_model.proofs.NameEq.{found_there, not_there}
use Rattle.wp_model.specs.Opening.{Opening, Order}
use Rattle.wp_model.specs.Step.{is_among}
use Rattle.wp_model.specs.TableLines.{article_in}
use Rattle.wp_model.specs.Tables.{AreReadOrders}
use Rattle.wp_tables.specs.Orders.{name_of}
use Rattle.std.specs.Option.{MatchOption}
use Rattle.wp_floor.specs.Floor.{order_number}
use Rattle.wp_floor.specs.Takers.{HasPut, IsPutAt}

-- the order that is found has the name
pub record IsOrderAt (orders : List Order) (name : List ℕ) (i : ℕ) : Type 0 where
  pub order : Order
  pub there : slice_get orders i ≡ Some order
  pub named : order.name ≡ name

pub name_at : (names : List (List ℕ)) (name : List ℕ) (i : ℕ) → article_in names name ≡ Some i → slice_get names i ≡ Some name
name_at names name i found =
    let is = found_there name names i found in
    let passes = passes_at_first (bytes_eq name) names [] (omega (arith, is.0, is.1)) in
    let same : bytes_eq name (get_or names i []) ≡ true = ap (λ k. bytes_eq name (get_or names k [])) (sym is.0) ∙ passes in
    slice_get-get_or names i [] is.1 ∙ ap Some (sym ((bytes_eq-Decides name (get_or names i [])).0 same))

-- the order that is found by a name stands at its number and has the name
pub order_at : (orders : List Order) (name : List ℕ) (i : ℕ) → article_in (map name_of orders) name ≡ Some i → IsOrderAt orders name i
order_at orders name i found =
    option_map_some (slice_get orders i) name_of name (sym (slice_get-map name_of orders i) ∙ name_at (map name_of orders) name i found)
    (λ order there is. record { order = order; there = there; named = is })

-- no order has a name that isn't found
pub no_order : (orders : List Order) (name : List ℕ) → article_in (map name_of orders) name ≡ None → (i : ℕ) (order : Order) → slice_get orders i ≡ Some order
    → order.name ≢ name
no_order orders name none i order there same =
    let names = map name_of orders in
    let at : slice_get names i ≡ Some order.name = slice_get-map name_of orders i ∙ ap (option_map name_of) there in
    let is = list_any_at (λ other. bytes_eq other name) names i order.name (slice_get_within names i order.name at)
    ((bytes_eq-Decides _ name).1 (get_or_from_slice_get names i order.name order.name at ∙ same)) in
    let not : is_among names name ≡ false = not_there name names none in
    absurd (cc)

-- one more name
among_more : (names : List (List ℕ)) (i : ℕ) (d x : List ℕ) → i < length names
    → is_among (take (i + 1) names) x ≡ (is_among (take i names) x || bytes_eq (get_or names i d) x)
among_more names i d x within = list_any_more (λ other. bytes_eq other x) names i d within

or_same : (a b : Bool) → b ≡ false → (a || b) ≡ a
or_same true b e = refl
or_same false b e = e

or_true : (a b : Bool) → b ≡ true → (a || b) ≡ true
or_true true b e = refl
or_true false b e = e

differs : (a b : List ℕ) → a ≢ b → bytes_eq a b ≡ false
differs a b other = is_false (bytes_eq a b) (bytes_eq-Decides a b).0
  where
    is_false : (t : Bool) → (t ≡ true → a ≡ b) → t ≡ false
    is_false true to = absurd (other (to refl))
    is_false false to = refl

-- after a name that no order has
pub put_none : (opening : Opening) (names : List (List ℕ)) (i : ℕ) (name : List ℕ) (taker : Option (List ℕ)) (old now : List (Option (List ℕ)))
    → i < length names → name ≡ get_or names i name
    → article_in (map name_of opening.orders) name ≡ None → HasPut opening (take i names) taker old now → HasPut opening (take (i + 1) names) taker old now
put_none opening names i name taker old now within is none put = record {
  count = put.count;
  each = λ k order there.
      let more = among_more names i name order.name within in
      let other : bytes_eq (get_or names i name) order.name ≡ false =
      ap (λ n. bytes_eq n order.name) (sym is) ∙ differs name order.name (λ e. no_order opening.orders name none k order there (sym e)) in
      put.each k order there ∙ ap (λ b. if b then Some taker else slice_get old k) (sym (more ∙ or_same (is_among (take i names) order.name) _ other));
}

-- after a name that an order has
pub put_one : (opening : Opening) (names : List (List ℕ)) (i n : ℕ) (name : List ℕ) (taker : Option (List ℕ)) (old now : List (Option (List ℕ)))
    → AreReadOrders opening.stock.articles opening.orders → length old ≡ length opening.orders → i < length names → name ≡ get_or names i name
    → article_in (map name_of opening.orders) name ≡ Some n → HasPut opening (take i names) taker old now
    → HasPut opening (take (i + 1) names) taker old (set now n taker)
put_one opening names i n name taker old now read long within is found put =
    let at = order_at opening.orders name n found in
    record {
      count = omega (arith, length-set now n taker, put.count);
      each = λ k order there.
          let more = among_more names i name order.name within in
          elim (cases_eq k n) [
            | inl here ↦
                let both : Some order ≡ Some at.order = sym there ∙ (ap (slice_get opening.orders) here ∙ at.there) in
                let one : order ≡ at.order = cc in
                let same : order.name ≡ name = ap (λ (o : Order). o.name) one ∙ at.named in
                let is_name : bytes_eq (get_or names i name) order.name ≡ true =
                ap (λ m. bytes_eq m order.name) (sym is) ∙ (bytes_eq-Decides name order.name).1 (sym same) in
                ap (slice_get (set now n taker)) here ∙ (slice_get-set_same now n taker
                (omega (arith, put.count, slice_get_within opening.orders n at.order at.there))
                ∙ ap (λ b. if b then Some taker else slice_get old k) (sym (more ∙ or_true (is_among (take i names) order.name) _ is_name)))
            | inr away ↦
                let other : bytes_eq (get_or names i name) order.name ≡ false
                = ap (λ m. bytes_eq m order.name) (sym is) ∙ differs name order.name
                (λ e. away (read.different k n order at.order there at.there (sym e ∙ sym at.named))) in
                slice_get-set_other now n k taker away ∙ (put.each k order there
                ∙ ap (λ b. if b then Some taker else slice_get old k) (sym (more ∙ or_same (is_among (take i names) order.name) _ other)))
          ];
    }

-- after one more name
pub put_more : (opening : Opening) (names : List (List ℕ)) (i : ℕ) (name : List ℕ) (taker : Option (List ℕ)) (old now new : List (Option (List ℕ)))
    → AreReadOrders opening.stock.articles opening.orders → length old ≡ length opening.orders → i < length names → name ≡ get_or names i name
    → IsPutAt (order_number opening name) taker now new → HasPut opening (take i names) taker old now → HasPut opening (take (i + 1) names) taker old new
put_more opening names i name taker old now new read long within is at put = by (article_in (map name_of opening.orders) name) refl at
  where
    by : (found : Option ℕ) → article_in (map name_of opening.orders) name ≡ found → MatchOption found (new ≡ now) (λ number. new ≡ set now number taker)
        → HasPut opening (take (i + 1) names) taker old new
    by None e same = subst (HasPut opening (take (i + 1) names) taker old) (sym same) (put_none opening names i name taker old now within is e put)
    by (Some n) e same = subst (HasPut opening (take (i + 1) names) taker old) (sym same)
        (put_one opening names i n name taker old now read long within is e put)
