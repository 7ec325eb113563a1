-- A text grows item by item.
use Rattle.std.proofs.Common.{◌≡◌, ◌∙◌, ap, ℕ, zero, suc, ◌+◌, List, [], ◌∷◌, ◌++◌, drop, take, Some, length, slice_get, refl, arith}
use Rattle.std.specs.List.{flat_map}
use Rattle.std.proofs.lemmas.Grind.{flat_map-append}
use Rattle.std.proofs.lemmas.List.{append-nil}

take_next : {X : Type 0} (xs : List X) (i : ℕ) (x : X) → slice_get xs i ≡ Some x → take (suc i) xs ≡ take i xs ++ x ∷ []
take_next [] i x is = absurd (cc is)
take_next (first ∷ xs) zero x is = ap (λ y. y ∷ []) (cc is)
take_next (first ∷ xs) (suc i) x is = ap (λ ys. first ∷ ys) (take_next xs i x is)

one_more : (i : ℕ) → i + 1 ≡ suc i
one_more i = omega arith

-- the items up to the next
pub take_more : {X : Type 0} (xs : List X) (i : ℕ) (x : X) → slice_get xs i ≡ Some x → take (i + 1) xs ≡ take i xs ++ x ∷ []
take_more xs i x is = ap (λ n. take n xs) (one_more i) ∙ take_next xs i x is

-- the items from one on
drop_next : {X : Type 0} (xs : List X) (i : ℕ) (x : X) → slice_get xs i ≡ Some x → drop i xs ≡ x ∷ drop (suc i) xs
drop_next [] i x is = absurd (cc is)
drop_next (first ∷ xs) zero x is = ap (λ y. y ∷ xs) (cc is)
drop_next (first ∷ xs) (suc i) x is = drop_next xs i x is

pub drop_more : {X : Type 0} (xs : List X) (i : ℕ) (x : X) → slice_get xs i ≡ Some x → drop i xs ≡ x ∷ drop (i + 1) xs
drop_more xs i x is = drop_next xs i x is ∙ ap (λ n. x ∷ drop n xs) (back i)
  where
    back : (i : ℕ) → suc i ≡ i + 1
    back i = omega arith

-- the texts of one more item of a list
pub flat_map-next : {X : Type 0} (f : X → List ℕ) (xs : List X) (i : ℕ) (x : X) → slice_get xs i ≡ Some x
    → flat_map f (take (i + 1) xs) ≡ flat_map f (take i xs) ++ f x
flat_map-next f xs i x is =
    ap (λ n. flat_map f (take n xs)) (one_more i) ∙ (ap (flat_map f) (take_next xs i x is)
    ∙ (flat_map-append f (take i xs) (x ∷ []) ∙ ap (λ text. flat_map f (take i xs) ++ text) (append-nil (f x))))

-- all items
pub take_all : {X : Type 0} (xs : List X) → take (length xs) xs ≡ xs
take_all [] = refl
take_all (x ∷ xs) = ap (λ ys. x ∷ ys) (take_all xs)
