-- What stands at the places of lists.
use Rattle.std.proofs.Common.{◌≡◌, ◌≢◌, ℕ, zero, suc, ◌<◌, ◌⊎◌, inl, inr, List, [], ◌∷◌, ◌++◌, length, slice_get, slice_set, Option, Some, None, IfSome, All}
use Rattle.std.proofs.Common.{option_map, refl, sym, ap, ◌∙◌, subst, arith, length-set}
use Rattle.std.specs.Prelude.{⊤}
use Rattle.std.proofs.lemmas.Bool.{cases_eq}
use Rattle.std.proofs.lemmas.Option.{MatchOption-at_some, get_or_from_slice_get, same_Some, slice_get-get_or, slice_get_cases, slice_get_within}

-- what holds of a value that is there
pub at_some : {X : Type 0} (found : Option X) (P : X → Type 0) (x : X) → found ≡ Some x → IfSome found P → P x
at_some found P x is holds = MatchOption-at_some ⊤ P x is holds

-- what holds of each value that may be found holds of what is found
pub if_some : {X : Type 0} (found : Option X) (P : X → Type 0) → ((x : X) → found ≡ Some x → P x) → IfSome found P
if_some None P each = tt
if_some (Some x) P each = each x refl

-- what holds of what is found goes on to what follows from it
pub if_some_then : {X : Type 0} (found : Option X) (P Q : X → Type 0) → ((x : X) → P x → Q x) → IfSome found P → IfSome found Q
if_some_then None P Q then' holds = tt
if_some_then (Some x) P Q then' holds = then' x holds

-- what holds of each element, by places
pub All-at : {X : Type 0} (P : X → Type 0) (xs : List X) (k : ℕ) (x : X) → All P xs → slice_get xs k ≡ Some x → P x
All-at P xs k x all is = subst P (get_or_from_slice_get xs k x x is) (all k x (slice_get_within xs k x is))

-- what holds at each place of a list holds of all of it
pub All-from_at : {X : Type 0} (P : X → Type 0) (xs : List X) → ((k : ℕ) (x : X) → slice_get xs k ≡ Some x → P x) → All P xs
All-from_at P xs each k d within = each k _ (slice_get-get_or xs k d within)

-- a place of a list has an element
pub within_some : {X : Type 0} (xs : List X) (k : ℕ) → k < length xs → (x : X) × (slice_get xs k ≡ Some x)
within_some xs k within = elim (slice_get_cases xs k).1 [
  | inl found ↦ (found.0, found.2)
  | inr past ↦ absurd (omega arith)
]

-- after a write
pub slice_get-set_same : {X : Type 0} (xs : List X) (i : ℕ) (y : X) → i < length xs → slice_get (slice_set xs i y) i ≡ Some y
slice_get-set_same [] i y within = absurd (omega arith)
slice_get-set_same (x ∷ xs) zero y within = refl
slice_get-set_same (x ∷ xs) (suc i) y within = slice_get-set_same xs i y (omega arith)

-- a place other than the one that is set stays
pub slice_get-set_other : {X : Type 0} (xs : List X) (i k : ℕ) (y : X) → k ≢ i → slice_get (slice_set xs i y) k ≡ slice_get xs k
slice_get-set_other [] i k y other = refl
slice_get-set_other (x ∷ xs) zero zero y other = absurd (other refl)
slice_get-set_other (x ∷ xs) zero (suc k) y other = refl
slice_get-set_other (x ∷ xs) (suc i) zero y other = refl
slice_get-set_other (x ∷ xs) (suc i) (suc k) y other = slice_get-set_other xs i k y (omega arith)

-- what stands at a place after one was set: what was set there, or what stood there
pub slice_get-set : {X : Type 0} (xs : List X) (i k : ℕ) (x y : X) → slice_get (slice_set xs i y) k ≡ Some x → ((k ≡ i) × (x ≡ y))
    ⊎ ((k ≢ i) × (slice_get xs k ≡ Some x))
slice_get-set xs i k x y is = elim (cases_eq k i) [
  | inl here ↦
      let within = slice_get_within (slice_set xs i y) k x is in
      let now = slice_get-set_same xs i y (omega (arith, length-set xs i y)) in
      inl (here, same_Some x y (sym is ∙ ap (slice_get (slice_set xs i y)) here ∙ now))
  | inr other ↦ inr (other, sym (slice_get-set_other xs i k y other) ∙ is)
]

-- after one more
pub slice_get-push_before : {X : Type 0} (xs : List X) (k : ℕ) (y : X) → k < length xs → slice_get (xs ++ y ∷ []) k ≡ slice_get xs k
slice_get-push_before [] k y within = absurd (omega arith)
slice_get-push_before (x ∷ xs) zero y within = refl
slice_get-push_before (x ∷ xs) (suc k) y within = slice_get-push_before xs k y (omega arith)

-- what stands at a place after one was appended: what stood there, or the new one, the last
pub slice_get-push : {X : Type 0} (xs : List X) (k : ℕ) (x y : X) → slice_get (xs ++ y ∷ []) k ≡ Some x → (slice_get xs k ≡ Some x)
    ⊎ ((k ≡ length xs) × (x ≡ y))
slice_get-push [] zero x y is = inr (refl, cc)
slice_get-push [] (suc k) x y is = absurd (cc)
slice_get-push (z ∷ xs) zero x y is = inl is
slice_get-push (z ∷ xs) (suc k) x y is = elim (slice_get-push xs k x y is) [
  | inl before ↦ inl before
  | inr last ↦ inr (ap suc last.0, last.1)
]

-- where a change of what was found is known, so is what was found
pub option_map_some : {A B P : Type 0} (o : Option A) (f : A → B) (y : B) → option_map f o ≡ Some y → ((x : A) → o ≡ Some x → f x ≡ y → P) → P
option_map_some (Some x) f y e k = k x refl (cc e)
option_map_some None f y e k = absurd (cc e)
