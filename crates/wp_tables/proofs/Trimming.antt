-- Records without their trailing empty fields.
use Rattle.std.proofs.Common.{◌≡◌, ◌∙◌, refl, ap, ℕ, zero, suc, ◌+◌, true, false, List, [], ◌∷◌, ◌++◌, take, length, Some, arith}
use Rattle.std.specs.Prelude.{slice_get, ◌==◌}
use Rattle.std.proofs.lemmas.Bool.{eqb-true}
use Rattle.wp_tables.specs.Records.{field_before, trimmed}

-- the front with one more
pub take_got : {A : Type 0} (xs : List A) (i j : ℕ) (x : A) → j ≡ i + 1 → slice_get xs i ≡ Some x → take j xs ≡ take i xs ++ x ∷ []
take_got [] i j x next at = absurd (cc at)
take_got (y ∷ xs) zero j x next at = let e : y ≡ x = cc in rw (next, e) refl
take_got (y ∷ xs) (suc i) j x next at =
    let e : j ≡ suc (i + 1) = omega arith in
    rw e (ap (λ rest. y ∷ rest) (take_got xs i (i + 1) x refl at))

-- an empty field at the end is left out
pub trimmed_empty : (xs : List (List ℕ)) (x : List ℕ) → (length x == 0) ≡ true → trimmed (xs ++ x ∷ []) ≡ trimmed xs
trimmed_empty [] [] empty = refl
trimmed_empty [] (b ∷ x) empty = absurd (let e : length (b ∷ x) ≡ 0 = eqb-true (length (b ∷ x)) 0 empty in omega arith)
trimmed_empty (y ∷ xs) x empty = ap (field_before y) (trimmed_empty xs x empty)

stays : (y : List ℕ) (xs : List (List ℕ)) (x : List ℕ) → field_before y (xs ++ x ∷ []) ≡ y ∷ (xs ++ x ∷ [])
stays [] [] x = refl
stays [] (z ∷ xs) x = refl
stays (b ∷ y) xs x = refl

-- with another field at the end nothing is left out
pub trimmed_end : (xs : List (List ℕ)) (x : List ℕ) → (length x == 0) ≡ false → trimmed (xs ++ x ∷ []) ≡ xs ++ x ∷ []
trimmed_end [] [] other = absurd (cc other)
trimmed_end [] (b ∷ x) other = refl
trimmed_end (y ∷ xs) x other = ap (field_before y) (trimmed_end xs x other) ∙ stays y xs x
