-- Orders keep what all orders that were read keep, line by line.
use Rattle.std.proofs.Common.{◌≡◌, ◌∙◌, refl, sym, ap, ℕ, zero, suc, ◌+◌, ◌<◌, ◌≤◌, Bool, true, false, List, [], ◌∷◌, ◌++◌, length, Some, arith}
use Rattle.std.specs.Prelude.{if◌then◌else◌, ◌||◌, slice_get}
use Rattle.std.specs.Str.{bytes_eq}
use Rattle.std.proofs.lemmas.List.Elements.{All-from_recursion, recursion_from_All}
use Rattle.std.proofs.lemmas.Slice.Eq.{bytes_eq-Decides}
use Rattle.std.specs.List.{All}
use Rattle.std.specs.Prelude.{IsTrue}
use Rattle.std.proofs.lemmas.List.Elements.{All-cons, All-head, All-nil, All-tail}
use Rattle.wp_model.specs.Name.{is_name}
use Rattle.wp_model.specs.Opening.{IsOrder, Order, is_known_order}
use Rattle.wp_model.specs.TableLines.{MayJoinOrders, add_order_line}
use Rattle.wp_model.specs.Tables.{AreReadOrders}
use Rattle.wp_model.specs.Limits.{most_file_orders}
use Rattle.wp_model.specs.declared.line.OrderLine.{OrderLine}
use Rattle.wp_model.proofs.NameEq.{bytes_eq_flips}
use Rattle.wp_model.proofs.OrderLists.{added_length, added_orders}

-- no order has the name of one before it
abbrev pub AreApart : List Order → Type 0
AreApart [] = Unit {0}
AreApart (order ∷ orders) = (is_known_order orders order.name ≡ false) × AreApart orders

neither : (p q : Bool) → (p || q) ≡ false → (p ≡ false) × (q ≡ false)
neither false q e = (refl, e)
neither true q e = absurd (cc e)

not_known : (orders : List Order) (name : List ℕ) → ((j : ℕ) (b : Order) → slice_get orders j ≡ Some b → b.name ≡ name → ⊥) → is_known_order orders name ≡ false
not_known [] name other = refl
not_known (order ∷ orders) name other =
    not_known_if (bytes_eq order.name name) (λ is. other zero order refl ((bytes_eq-Decides order.name name).0 is))
    (not_known orders name (λ j b at same. other (suc j) b at same))
  where
    not_known_if : (b : Bool) → (b ≡ true → ⊥) → is_known_order orders name ≡ false → (b || is_known_order orders name) ≡ false
    not_known_if true here rest = absurd (here refl)
    not_known_if false here rest = rest

pub apart_from : (orders : List Order) → ((i j : ℕ) (a b : Order) → slice_get orders i ≡ Some a → slice_get orders j ≡ Some b → a.name ≡ b.name → i ≡ j)
    → AreApart orders
apart_from [] different = tt
apart_from (order ∷ orders) different = (
  not_known orders order.name (λ j b at same. let e : zero ≡ suc j = different zero (suc j) order b refl at (sym same) in absurd (omega arith)),
  apart_from orders (λ i j a b at_i at_j same. let e : suc i ≡ suc j = different (suc i) (suc j) a b at_i at_j same in omega arith),
)

never_known : (orders : List Order) (name : List ℕ) (j : ℕ) (b : Order) → is_known_order orders name ≡ false → slice_get orders j ≡ Some b → b.name ≡ name → ⊥
never_known [] name j b unknown at same = cc at
never_known (order ∷ orders) name zero b unknown at same =
    let e : order ≡ b = cc in
    let is = (bytes_eq-Decides order.name name).1 (ap (λ (o : Order). o.name) e ∙ same) in
    let parts = neither (bytes_eq order.name name) (is_known_order orders name) unknown in
    cc (is, parts.0)
never_known (order ∷ orders) name (suc j) b unknown at same =
    never_known orders name j b (neither (bytes_eq order.name name) (is_known_order orders name) unknown).1 at same

pub different_from : (orders : List Order) → AreApart orders → (i j : ℕ) (a b : Order) → slice_get orders i ≡ Some a → slice_get orders j ≡ Some b
    → a.name ≡ b.name → i ≡ j
different_from [] apart i j a b at_i at_j same = absurd (cc at_i)
different_from (order ∷ orders) apart zero zero a b at_i at_j same = refl
different_from (order ∷ orders) apart zero (suc j) a b at_i at_j same =
    let e : order ≡ a = cc in
    absurd (never_known orders order.name j b apart.0 at_j (sym same ∙ ap (λ (o : Order). o.name) (sym e)))
different_from (order ∷ orders) apart (suc i) zero a b at_i at_j same =
    let e : order ≡ b = cc in
    absurd (never_known orders order.name i a apart.0 at_i (same ∙ ap (λ (o : Order). o.name) (sym e)))
different_from (order ∷ orders) apart (suc i) (suc j) a b at_i at_j same = ap suc (different_from orders apart.1 i j a b at_i at_j same)

known_if : (b : Bool) (order next : Order) (orders more : List Order) (name : List ℕ) → next.name ≡ order.name → is_known_order (order ∷ orders) name ≡ false
    → (is_known_order orders name ≡ false → is_known_order more name ≡ false)
    → is_known_order (if b then next ∷ orders else order ∷ more) name ≡ false
known_if true order next orders more name same unknown rest = rw same unknown
known_if false order next orders more name same unknown rest =
    let parts = neither (bytes_eq order.name name) (is_known_order orders name) unknown in
    rw (parts.0, rest parts.1) refl

-- a line of another name makes no order of this name
known_after : (orders : List Order) (line : OrderLine) (name : List ℕ) → bytes_eq line.order name ≡ false → is_known_order orders name ≡ false
    → is_known_order (add_order_line orders line) name ≡ false
known_after [] line name other unknown = rw other refl
known_after (order ∷ orders) line name other unknown =
    known_if (bytes_eq order.name line.order) order (record order { lines = order.lines ++ line.line ∷ [] }) orders
    (add_order_line orders line) name refl unknown (known_after orders line name other)

apart_if : (b : Bool) (order : Order) (orders : List Order) (line : OrderLine) → bytes_eq order.name line.order ≡ b → AreApart (order ∷ orders)
    → AreApart (add_order_line orders line)
    → AreApart (if b then record order { lines = order.lines ++ line.line ∷ [] } ∷ orders else order ∷ add_order_line orders line)
apart_if true order orders line is apart rest = apart
apart_if false order orders line is apart rest = (known_after orders line order.name (bytes_eq_flips line.order order.name ∙ is) apart.0, rest)

pub apart_after : (orders : List Order) (line : OrderLine) → AreApart orders → AreApart (add_order_line orders line)
apart_after [] line apart = (refl, tt)
apart_after (order ∷ orders) line apart = apart_if (bytes_eq order.name line.order) order orders line refl apart (apart_after orders line apart.1)

few_if : (known : Bool) (n : ℕ) → n ≤ most_file_orders → (known ≡ false → n < most_file_orders) → n + (if known then 0 else 1) ≤ most_file_orders
few_if true n most room = omega arith
few_if false n most room = omega (arith, room refl)

named_if : (b : Bool) (next order : Order) (orders more : List Order) → next.name ≡ order.name → All (λ o. IsTrue (is_name o.name)) (order ∷ orders)
    → All (λ o. IsTrue (is_name o.name)) more → All (λ o. IsTrue (is_name o.name)) (if b then next ∷ orders else order ∷ more)
named_if true next order orders more same all rest =
    let P : Order → Type 0 = λ o. IsTrue (is_name o.name) in
    All-cons P next orders (rw same (All-head P order orders all)) (All-tail P order orders all)
named_if false next order orders more same all rest =
    let P : Order → Type 0 = λ o. IsTrue (is_name o.name) in
    All-cons P order more (All-head P order orders all) rest

named_after : (orders : List Order) (line : OrderLine) → IsTrue (is_name line.order) → All (λ o. IsTrue (is_name o.name)) orders
    → All (λ o. IsTrue (is_name o.name)) (add_order_line orders line)
named_after [] line is all =
    let P : Order → Type 0 = λ o. IsTrue (is_name o.name) in
    All-cons P _ [] is (All-nil P)
named_after (order ∷ orders) line is all =
    let P : Order → Type 0 = λ o. IsTrue (is_name o.name) in
    named_if (bytes_eq order.name line.order) (record order { lines = order.lines ++ line.line ∷ [] }) order orders (add_order_line orders line) refl all
    (named_after orders line is (All-tail P order orders all))

-- a line that may join leaves such orders
pub kept_by_order_line : (articles : List (List ℕ)) (orders : List Order) (line : OrderLine) → AreReadOrders articles orders
    → MayJoinOrders articles orders line → AreReadOrders articles (add_order_line orders line)
kept_by_order_line articles orders line read may = record {
  each = All-from_recursion (IsOrder articles) (add_order_line orders line)
      (added_orders articles orders line may.is_line (recursion_from_All (IsOrder articles) orders read.each) may.short);
  most = rw (added_length orders line) (few_if (is_known_order orders line.order) (length orders) read.most may.few);
  different = different_from (add_order_line orders line) (apart_after orders line (apart_from orders read.different));
  named = named_after orders line may.named read.named;
}
