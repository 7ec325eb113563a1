-- Batches as ascending lists, and what the items of a list say of one.
use Rattle.std.proofs.Common.{◌≡◌, ℕ, zero, suc, ◌+◌, ◌<◌, ◌≤◌, ◌⊎◌, List, [], ◌∷◌, ◌++◌, length, get_or, take, Option, Some, None, option_map}
use Rattle.std.proofs.Common.{option_and_then, arith, refl, sym, ap, ◌∙◌}
use Rattle.std.proofs.Common.{Contains, ⊎_elim, inl, inr, subst, ◌↔◌}
use Rattle.std.proofs.lemmas.List.Elements.{Contains-append_cases, Contains-append_left, Contains-append_right}
use Rattle.std.proofs.lemmas.Option.{same_Some}
use Rattle.std.specs.List.Sorted.{IsStrictlyIncreasing}
use Rattle.serde_json.specs.Data.{Data}
use Rattle.serde_json.specs.Find.{as_array}
use Rattle.serde_json.specs.View.{items_view, view}
use Rattle.serde_json.specs.declared.value.Value.{Value}
use Rattle.wp_pairs.proofs.Members.{ascending_cons, contains_cases, contains_first, contains_later, contains_none}
use Rattle.wp_pairs.specs.Batches.{IsBatch}
use Rattle.wp_cert.specs.Text.{batch_said, number_said, orders_from, within}

-- ---- ascending lists

-- the rest of an ascending list ascends
pub tail_ascends : (x : ℕ) (xs : List ℕ) → IsStrictlyIncreasing (x ∷ xs) → IsStrictlyIncreasing xs
tail_ascends x xs h = λ k within. let e : suc k + 1 ≡ suc (k + 1) = omega arith in let up = h (suc k) (omega arith) in rw e at up

-- the first of an ascending list is below the others
pub head_below : (x : ℕ) (xs : List ℕ) → IsStrictlyIncreasing (x ∷ xs) → (y : ℕ) → Contains xs y → x < y
head_below x [] h y has = absurd (contains_none y has)
head_below x (z ∷ zs) h y has =
    let next : x < z = h 0 (omega arith) in
    ⊎_elim (λ (e : z ≡ y). omega arith) (λ later. let more = head_below z zs (tail_ascends x (z ∷ zs) h) y later in omega arith) (contains_cases z y zs has)

-- what has both lists' first is the less of them
same_first : (x y : ℕ) (xs ys : List ℕ) → IsStrictlyIncreasing (x ∷ xs) → IsStrictlyIncreasing (y ∷ ys) → Contains (y ∷ ys) x → Contains (x ∷ xs) y → x ≡ y
same_first x y xs ys up down one other =
    ⊎_elim (λ (e : y ≡ x). sym e)
    (λ (later : Contains ys x). ⊎_elim (λ (e : x ≡ y). e)
    (λ (also : Contains xs y). let a = head_below y ys down x later in let b = head_below x xs up y also in absurd (omega arith)) (contains_cases x y xs other))
    (contains_cases y x ys one)

rest_of : (x : ℕ) (xs ys : List ℕ) → IsStrictlyIncreasing (x ∷ xs) → ((z : ℕ) → Contains (x ∷ xs) z → Contains (x ∷ ys) z) → (z : ℕ) → Contains xs z
    → Contains ys z
rest_of x xs ys up all z has =
    ⊎_elim (λ (e : x ≡ z). let above = head_below x xs up z has in absurd (omega arith)) (λ later. later)
    (contains_cases x z ys (all z (contains_later x z xs has)))

-- two ascending lists of the same numbers are the same
pub same_ascending : (xs ys : List ℕ) → IsStrictlyIncreasing xs → IsStrictlyIncreasing ys → ((z : ℕ) → Contains xs z → Contains ys z)
    → ((z : ℕ) → Contains ys z → Contains xs z) → xs ≡ ys
same_ascending [] [] up down all back = refl
same_ascending [] (y ∷ ys) up down all back = absurd (contains_none y (back y (contains_first y ys)))
same_ascending (x ∷ xs) [] up down all back = absurd (contains_none x (all x (contains_first x xs)))
same_ascending (x ∷ xs) (y ∷ ys) up down all back =
    let e = same_first x y xs ys up down (all x (contains_first x xs)) (back y (contains_first y ys)) in
    let all' : (z : ℕ) → Contains (x ∷ xs) z → Contains (x ∷ ys) z = subst (λ (w : ℕ). (z : ℕ) → Contains (x ∷ xs) z → Contains (w ∷ ys) z) (sym e) all in
    let back' : (z : ℕ) → Contains (x ∷ ys) z → Contains (x ∷ xs) z = subst (λ (w : ℕ). (z : ℕ) → Contains (w ∷ ys) z → Contains (x ∷ xs) z) (sym e) back in
    let down' : IsStrictlyIncreasing (x ∷ ys) = subst (λ (w : ℕ). IsStrictlyIncreasing (w ∷ ys)) (sym e) down in
    let rest = same_ascending xs ys (tail_ascends x xs up) (tail_ascends y ys down) (rest_of x xs ys up all') (rest_of x ys xs down' back') in
    rw (e, rest) refl

-- an ascending list with one more above all ascends
pub more_ascends : (xs : List ℕ) (x : ℕ) → IsStrictlyIncreasing xs → ((y : ℕ) → Contains xs y → y < x) → IsStrictlyIncreasing (xs ++ x ∷ [])
more_ascends [] x up below = λ k within. absurd (omega arith)
more_ascends (y ∷ ys) x up below =
    ascending_cons y (ys ++ x ∷ []) (λ z has. ⊎_elim (λ before. head_below y ys up z before)
    (λ last. ⊎_elim (λ (e : x ≡ z). let low = below y (contains_first y ys) in omega arith) (λ none. absurd (contains_none z none))
    (contains_cases x z [] last))
    (Contains-append_cases ys (x ∷ []) z has))
    (more_ascends ys x (tail_ascends y ys up) (λ z has. below z (contains_later y z ys has)))

-- a batch that has one more order, which is above the others, is the list with that order at its end
pub batch_more : (batch after : List ℕ) (order least : ℕ) → IsStrictlyIncreasing batch → ((p : ℕ) → Contains batch p → p < least) → least ≤ order
    → IsBatch after → ((p : ℕ) → Contains after p ↔ (Contains batch p ⊎ (p ≡ order))) → after ≡ batch ++ order ∷ []
batch_more batch after order least up below above is same =
    same_ascending after (batch ++ order ∷ []) is.ascending (more_ascends batch order up (λ y has. let low = below y has in omega arith))
    (λ z has. ⊎_elim (λ old. Contains-append_left batch (order ∷ []) z old)
    (λ (e : z ≡ order). Contains-append_right batch (order ∷ []) z (rw e (contains_first order []))) ((same z).0 has))
    (λ z has. (same z).1 (⊎_elim (λ old. inl old)
    (λ last. ⊎_elim (λ (e : order ≡ z). inr (sym e)) (λ none. absurd (contains_none z none)) (contains_cases order z [] last))
    (Contains-append_cases batch (order ∷ []) z has)))

-- ---- what items say

-- the least that the order behind these may be
abbrev pub end_of : ℕ → List ℕ → ℕ
end_of least [] = least
end_of least (order ∷ orders) = end_of (order + 1) orders

end_more : (least : ℕ) (orders : List ℕ) (order : ℕ) → end_of least (orders ++ order ∷ []) ≡ order + 1
end_more least [] order = refl
end_more least (first ∷ orders) order = end_more (first + 1) orders order

-- what is kept of the orders that were read
pub record IsReadUpTo (batch : List ℕ) (least : ℕ) : Type 0 where
  pub end : least ≡ end_of 0 batch
  pub small : least < 65
  pub ascending : IsStrictlyIncreasing batch
  pub below : (p : ℕ) → Contains batch p → p < least

pub none_read : IsReadUpTo [] 0
none_read = record { end = refl; small = omega arith; ascending = λ k within. absurd (omega arith); below = λ p has. absurd (contains_none p has) }

-- and so are those with one order more, above all of them
pub one_more_read : (batch : List ℕ) (least order : ℕ) → IsReadUpTo batch least → least ≤ order → order < 64 → IsReadUpTo (batch ++ order ∷ []) (order + 1)
one_more_read batch least order is above small = record {
  end = sym (end_more 0 batch order);
  small = omega arith;
  ascending = more_ascends batch order is.ascending (λ y has. let low = is.below y has in omega arith);
  below = λ p has. ⊎_elim (λ old. let low = is.below p old in omega arith)
      (λ last. ⊎_elim (λ (e : order ≡ p). omega arith) (λ none. absurd (contains_none p none)) (contains_cases order p [] last))
      (Contains-append_cases batch (order ∷ []) p has);
}

some_onward : (x order : ℕ) (rest rest' : Option (List ℕ)) (orders : List ℕ)
    → ((xs : List ℕ) → rest ≡ Some xs → orders ≡ x ∷ xs → rest' ≡ Some (xs ++ order ∷ [])) → option_map (λ xs. x ∷ xs) rest ≡ Some orders
    → option_map (λ xs. x ∷ xs) rest' ≡ Some (orders ++ order ∷ [])
some_onward x order None rest' orders next said = absurd (cc said)
some_onward x order (Some xs) rest' [] next said = absurd (cc said)
some_onward x order (Some xs) rest' (z ∷ zs) next said =
    let head : x ≡ z = cc said in let tail : xs ≡ zs = cc said in
    let whole : z ∷ zs ≡ x ∷ xs = rw (head, tail) refl in rw (next xs refl whole, head, tail) refl

onward : (first : Option ℕ) (rest rest' : ℕ → Option (List ℕ)) (test : ℕ → Option ℕ) (least order : ℕ) (orders : List ℕ)
    → ((x : ℕ) (xs : List ℕ) → rest (x + 1) ≡ Some xs → test (end_of (x + 1) xs) ≡ Some order → rest' (x + 1) ≡ Some (xs ++ order ∷ []))
    → option_and_then (λ x. option_map (λ xs. x ∷ xs) (rest (x + 1))) first ≡ Some orders → test (end_of least orders) ≡ Some order
    → option_and_then (λ x. option_map (λ xs. x ∷ xs) (rest' (x + 1))) first ≡ Some (orders ++ order ∷ [])
onward None rest rest' test least order orders next said last = absurd (cc said)
onward (Some x) rest rest' test least order orders next said last =
    some_onward x order (rest (x + 1)) (rest' (x + 1)) orders
    (λ xs is whole. next x xs is (subst (λ (os : List ℕ). test (end_of least os) ≡ Some order) whole last)) said

-- one more item says one more order
pub orders_more : (least : ℕ) (values : List Value) (i : ℕ) (value : Value) (order : ℕ) (orders : List ℕ) → i < length values
    → value ≡ get_or values i value → orders_from least (items_view (take i values)) ≡ Some orders
    → option_and_then (within (end_of least orders) 64) (number_said (view value)) ≡ Some order
    → orders_from least (items_view (take (i + 1) values)) ≡ Some (orders ++ order ∷ [])
orders_more least [] i value order orders inside here all one = absurd (omega arith)
orders_more least (first ∷ values) zero value order [] inside here all one =
    rw (ap (λ (v : Value). option_and_then (within least 64) (number_said (view v))) (sym here) ∙ one) refl
orders_more least (first ∷ values) zero value order (z ∷ zs) inside here all one = absurd (cc all)
orders_more least (first ∷ values) (suc i) value order orders inside here all one =
    let e : suc i + 1 ≡ suc (i + 1) = omega arith in
    rw e (onward (option_and_then (within least 64) (number_said (view first))) (λ n. orders_from n (items_view (take i values)))
    (λ n. orders_from n (items_view (take (i + 1) values))) (λ n. option_and_then (within n 64) (number_said (view value))) least order orders
    (λ x xs rest last. orders_more (x + 1) values i value order xs (omega arith) here rest last) all one)

some_ends : (x : ℕ) (rest whole : Option (List ℕ)) (orders : List ℕ) → ((xs : List ℕ) → rest ≡ Some xs → orders ≡ x ∷ xs → whole ≡ None)
    → option_map (λ xs. x ∷ xs) rest ≡ Some orders → option_map (λ xs. x ∷ xs) whole ≡ None
some_ends x None whole orders next said = absurd (cc said)
some_ends x (Some xs) whole orders next said = let same : orders ≡ x ∷ xs = sym (same_Some (x ∷ xs) orders said) in rw (next xs refl same) refl

ends : (first : Option ℕ) (rest whole : ℕ → Option (List ℕ)) (test : ℕ → Option ℕ) (least : ℕ) (orders : List ℕ)
    → ((x : ℕ) (xs : List ℕ) → rest (x + 1) ≡ Some xs → test (end_of (x + 1) xs) ≡ None → whole (x + 1) ≡ None)
    → option_and_then (λ x. option_map (λ xs. x ∷ xs) (rest (x + 1))) first ≡ Some orders → test (end_of least orders) ≡ None
    → option_and_then (λ x. option_map (λ xs. x ∷ xs) (whole (x + 1))) first ≡ None
ends None rest whole test least orders next said last = refl
ends (Some x) rest whole test least orders next said last =
    some_ends x (rest (x + 1)) (whole (x + 1)) orders
    (λ xs is same. next x xs is (subst (λ (os : List ℕ). test (end_of least os) ≡ None) same last)) said

-- where an item says no order that may follow, the items say no batch
pub orders_none : (least : ℕ) (values : List Value) (i : ℕ) (value : Value) (orders : List ℕ) → i < length values → value ≡ get_or values i value
    → orders_from least (items_view (take i values)) ≡ Some orders → option_and_then (within (end_of least orders) 64) (number_said (view value)) ≡ None
    → orders_from least (items_view values) ≡ None
orders_none least [] i value orders inside here all none = absurd (omega arith)
orders_none least (first ∷ values) zero value [] inside here all none =
    rw (ap (λ (v : Value). option_and_then (within least 64) (number_said (view v))) (sym here) ∙ none) refl
orders_none least (first ∷ values) zero value (z ∷ zs) inside here all none = absurd (cc all)
orders_none least (first ∷ values) (suc i) value orders inside here all none =
    ends (option_and_then (within least 64) (number_said (view first))) (λ n. orders_from n (items_view (take i values)))
    (λ n. orders_from n (items_view values)) (λ n. option_and_then (within n 64) (number_said (view value))) least orders
    (λ x xs rest last. orders_none (x + 1) values i value xs (omega arith) here rest last) all none

-- where an item says no order that may follow, the list says no batch
pub batch_none : (list : Data) (values : List Value) (i : ℕ) (value : Value) (orders : List ℕ) (least : ℕ) → as_array list ≡ Some (items_view values)
    → i < length values → value ≡ get_or values i value → orders_from 0 (items_view (take i values)) ≡ Some orders → least ≡ end_of 0 orders
    → option_and_then (within least 64) (number_said (view value)) ≡ None → batch_said list ≡ None
batch_none list values i value orders least is inside here all end none = rw is (orders_none 0 values i value orders inside here all (rw end at none))
