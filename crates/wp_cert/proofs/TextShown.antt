-- The values as which lists, batches and marks are printed, one item after another.
use Rattle.std.proofs.Common.{◌≡◌, ℕ, zero, suc, ◌+◌, ◌<◌, ◌↔◌, Bool, List, [], ◌∷◌, ◌++◌, length, get_or, map, take, Some, Contains}
use Rattle.std.proofs.Common.{Global, String, rules, string_bytes, ⊎_elim, arith, refl, sym, ap, subst, ◌∙◌}
use Rattle.std.specs.List.Sorted.{IsStrictlyIncreasing}
use Rattle.std.specs.Prelude.{slice_get}
use Rattle.std.proofs.lemmas.Bool.{cases_eq}
use Rattle.std.proofs.lemmas.List.{map-append, take_more}
use Rattle.std.proofs.lemmas.List.Elements.{Contains-append_left, Contains-push, Contains-push_cases}
use Rattle.serde_json.specs.Data.{Data, string}
use Rattle.serde_json.specs.View.{view}
use Rattle.serde_json.specs.declared.value.Value.{Value, the_lemmas}
use Rattle.serde_json.specs.declared.value.Value.{String as StringValue}
use Rattle.wp_pairs.proofs.Members.{contains_none}
use Rattle.wp_pairs.specs.Batches.{IsBatch}
use Rattle.wp_cert.specs.TextData.{mark_code, number_data}
use Rattle.wp_cert.proofs.TextBatches.{more_ascends, same_ascending}

-- a text as a value
pub view-text : (text : String Global) → view (StringValue text) ≡ string (string_bytes text)
view-text text = search (rules, the_lemmas)

-- one more value shows one more thing
pub pushed : {A : Type 0} (shown : A → Data) (values : List Value) (value : Value) (xs : List A) (x : A) → map view values ≡ map shown xs
    → view value ≡ shown x → map view (values ++ value ∷ []) ≡ map shown (xs ++ x ∷ [])
pushed shown values value xs x all one =
    map-append view values (value ∷ []) ∙ (rw (all, one) refl) ∙ sym (map-append shown xs (x ∷ []))

-- one more value shows the next of a list
pub shown_more : {A : Type 0} (shown : A → Data) (values : List Value) (value : Value) (xs : List A) (i : ℕ) (d : A) → i < length xs
    → map view values ≡ map shown (take i xs) → view value ≡ shown (get_or xs i d) → map view (values ++ value ∷ []) ≡ map shown (take (i + 1) xs)
shown_more {A} shown values value xs i d within all one =
    pushed shown values value (take i xs) (get_or xs i d) all one ∙ ap (λ (ys : List A). map shown ys) (sym (take_more xs i d within))

-- the item at a place, whatever is told where there is none
pub item_at : {A : Type 0} (xs : List A) (i : ℕ) (x d : A) → slice_get xs i ≡ Some x → get_or xs i d ≡ x
item_at [] i x d h = absurd (cc h)
item_at (y ∷ xs) zero x d h = cc h
item_at (y ∷ xs) (suc i) x d h = item_at xs i x d h

-- one more character shows the next mark
pub marks_more : (marks : List Bool) (i : ℕ) (mark : Bool) (text : List ℕ) → i < length marks → slice_get marks i ≡ Some mark
    → text ≡ map mark_code (take i marks) → text ++ mark_code mark ∷ [] ≡ map mark_code (take (i + 1) marks)
marks_more marks i mark text within is all =
    let next : take (i + 1) marks ≡ take i marks ++ mark ∷ [] =
    take_more marks i mark within ∙ ap (λ (b : Bool). take i marks ++ b ∷ []) (item_at marks i mark mark is) in
    rw (next, all) (sym (map-append mark_code (take i marks) (mark ∷ [])))

-- values show the orders of a batch below this one
pub record IsListedBelow (batch : List ℕ) (order : ℕ) (values : List Value) : Type 0 where
  pub orders : List ℕ
  pub shown : map view values ≡ map number_data orders
  pub ascending : IsStrictlyIncreasing orders
  pub same : (p : ℕ) → Contains orders p ↔ (Contains batch p × (p < order))

pub none_listed : (batch : List ℕ) → IsListedBelow batch 0 []
none_listed batch = record {
  orders = [];
  shown = refl;
  ascending = λ k within. absurd (omega arith);
  same = λ p. (λ has. absurd (contains_none p has), λ has. absurd (omega (arith, has.1)));
}

-- an order of the batch is listed next
pub listed_more : (batch : List ℕ) (order : ℕ) (values : List Value) (value : Value) → Contains batch order → IsListedBelow batch order values
    → view value ≡ number_data order → IsListedBelow batch (order + 1) (values ++ value ∷ [])
listed_more batch order values value has listed one = record {
  orders = listed.orders ++ order ∷ [];
  shown = pushed number_data values value listed.orders order listed.shown one;
  ascending = more_ascends listed.orders order listed.ascending (λ y old. ((listed.same y).0 old).1);
  same = λ p. (
    λ is. ⊎_elim (λ old. let was = (listed.same p).0 old in (was.0, omega (arith, was.1)))
        (λ (e : order ≡ p). (subst (λ (q : ℕ). Contains batch q) e has, omega arith)) (Contains-push_cases listed.orders order p is),
    λ is. ⊎_elim (λ (e : p ≡ order). subst (λ (q : ℕ). Contains (listed.orders ++ order ∷ []) q) (sym e) (Contains-push listed.orders order))
        (λ ne. Contains-append_left listed.orders (order ∷ []) p ((listed.same p).1 (is.0, omega (arith, is.1, ne)))) (cases_eq p order),
  );
}

-- an order that isn't in the batch isn't listed
pub listed_same : (batch : List ℕ) (order : ℕ) (values : List Value) → (Contains batch order → ⊥) → IsListedBelow batch order values
    → IsListedBelow batch (order + 1) values
listed_same batch order values none listed = record {
  orders = listed.orders;
  shown = listed.shown;
  ascending = listed.ascending;
  same = λ p. (
    λ is. let was = (listed.same p).0 is in (was.0, omega (arith, was.1)),
    λ is. ⊎_elim (λ (e : p ≡ order). absurd (none (subst (λ (q : ℕ). Contains batch q) e is.0)))
        (λ ne. (listed.same p).1 (is.0, omega (arith, is.1, ne))) (cases_eq p order),
  );
}

-- all orders of a batch are listed
pub listed_all : (batch : List ℕ) (values : List Value) → IsBatch batch → ((p : ℕ) → Contains batch p → p < 64) → IsListedBelow batch 64 values
    → map view values ≡ map number_data batch
listed_all batch values is below listed =
    let same : listed.orders ≡ batch =
    same_ascending listed.orders batch listed.ascending is.ascending (λ z has. ((listed.same z).0 has).0)
    (λ z has. (listed.same z).1 (has, below z has)) in
    listed.shown ∙ ap (λ (xs : List ℕ). map number_data xs) same
