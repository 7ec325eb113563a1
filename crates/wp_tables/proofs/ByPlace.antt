-- The fields of a record by their places.
use Rattle.std.proofs.Common.{◌≡◌, ◌≢◌, ◌∙◌, refl, sym, ap, Bool, true, false, ℕ, zero, suc, ◌+◌, ◌-◌, ◌<◌, ◌≤◌, List, [], ◌∷◌, drop, length, Option, Some}
use Rattle.std.proofs.Common.{None, Err, arith, rules}
use Rattle.std.specs.Prelude.{slice_get, IsSome}
use Rattle.std.specs.List.{list_all}
use Rattle.std.specs.Option.{option_map}
use Rattle.std.proofs.lemmas.List.{drop_all, length-drop}
use Rattle.csv.specs.Records.{field_at}
use Rattle.wp_tables.specs.Fields.{four_of, one_of, three_of}
use Rattle.wp_tables.specs.declared.fault.Why.TheVariants as why

-- a record's field at a place
pub field_at_is : (fields : List (List ℕ)) (i : ℕ) → field_at fields i ≡ slice_get fields i
unfolding field_at
field_at_is [] i = refl
field_at_is (f ∷ fields) zero = refl
field_at_is (f ∷ fields) (suc i) = field_at_is fields i

-- there is something at a place below the length
slice_get_there : {A : Type 0} (xs : List A) (i : ℕ) → i < length xs → slice_get xs i ≡ None → ⊥
slice_get_there [] i below none = omega arith
slice_get_there (x ∷ xs) zero below none = cc
slice_get_there (x ∷ xs) (suc i) below none = slice_get_there xs i (omega arith) none

-- what was got at such a place is there
pub got_there : {A B : Type 0} (f : A → B) (o : Option A) (xs : List B) (i : ℕ) → option_map f o ≡ slice_get xs i → i < length xs → IsSome o
got_there f (Some a) xs i e below = search rules
got_there f None xs i e below = absurd (slice_get_there xs i below (sym e))

-- what is left at a place that has something
pub drop_got : {A : Type 0} (xs : List A) (i : ℕ) (x : A) → slice_get xs i ≡ Some x → drop i xs ≡ x ∷ drop (i + 1) xs
drop_got [] i x at = absurd (cc at)
drop_got (y ∷ xs) zero x at = let e : y ≡ x = cc in ap (λ z. z ∷ xs) e
drop_got (y ∷ xs) (suc i) x at = let e : suc i + 1 ≡ suc (i + 1) = omega arith in rw e (drop_got xs i x at)

-- a test of all fails at the first, or is one of the others
pub all_but_first : {A : Type 0} (test : A → Bool) (x : A) (xs : List A) → test x ≡ false → list_all test (x ∷ xs) ≡ false
all_but_first test x xs fails = rw fails refl

-- where the first item passes, all do where the others do
pub all_from_first : {A : Type 0} (test : A → Bool) (x : A) (xs : List A) → test x ≡ true → list_all test (x ∷ xs) ≡ list_all test xs
all_from_first test x xs passes = rw passes refl

-- the same, where the next place is given
drop_then : {A : Type 0} (xs : List A) (i j : ℕ) (x : A) → j ≡ i + 1 → slice_get xs i ≡ Some x → drop i xs ≡ x ∷ drop j xs
drop_then xs i j x next at = rw next (drop_got xs i x at)

-- the last field is all that is left
pub one_left : {A : Type 0} (xs : List A) (at : ℕ) (a : A) → length xs - at ≡ 1 → at ≤ length xs → slice_get xs at ≡ Some a → drop at xs ≡ a ∷ []
one_left xs at a one within first = drop_got xs at a first ∙ ap (λ rest. a ∷ rest) (drop_all (at + 1) xs (omega arith))

-- so are the last three
pub three_left : {A : Type 0} (xs : List A) (at : ℕ) (a b c : A) → length xs - at ≡ 3 → at ≤ length xs
    → slice_get xs at ≡ Some a → slice_get xs (at + 1) ≡ Some b → slice_get xs (at + 2) ≡ Some c → drop at xs ≡ a ∷ b ∷ c ∷ []
three_left xs at a b c three within first second third =
    drop_got xs at a first
    ∙ ap (λ rest. a ∷ rest) (drop_then xs (at + 1) (at + 2) b (omega arith) second
    ∙ ap (λ rest. b ∷ rest) (drop_then xs (at + 2) (at + 3) c (omega arith) third ∙ ap (λ rest. c ∷ rest) (drop_all (at + 3) xs (omega arith))))

-- and the last four
pub four_left : {A : Type 0} (xs : List A) (at : ℕ) (a b c d : A) → length xs - at ≡ 4 → at ≤ length xs
    → slice_get xs at ≡ Some a → slice_get xs (at + 1) ≡ Some b → slice_get xs (at + 2) ≡ Some c → slice_get xs (at + 3) ≡ Some d
    → drop at xs ≡ a ∷ b ∷ c ∷ d ∷ []
four_left xs at a b c d four within first second third fourth =
    drop_got xs at a first
    ∙ ap (λ rest. a ∷ rest) (drop_then xs (at + 1) (at + 2) b (omega arith) second
    ∙ ap (λ rest. b ∷ rest) (drop_then xs (at + 2) (at + 3) c (omega arith) third
    ∙ ap (λ rest. c ∷ rest) (drop_then xs (at + 3) (at + 4) d (omega arith) fourth ∙ ap (λ rest. d ∷ rest) (drop_all (at + 4) xs (omega arith)))))

one_else : (xs : List (List ℕ)) → length xs ≢ 1 → one_of xs ≡ Err why.Columns
one_else [] other = refl
one_else (a ∷ []) other = absurd (other (omega arith))
one_else (a ∷ b ∷ rest) other = refl

three_else : (xs : List (List ℕ)) → length xs ≢ 3 → three_of xs ≡ Err why.Columns
three_else [] other = refl
three_else (a ∷ []) other = refl
three_else (a ∷ b ∷ []) other = refl
three_else (a ∷ b ∷ c ∷ []) other = absurd (other (omega arith))
three_else (a ∷ b ∷ c ∷ d ∷ rest) other = refl

four_else : (xs : List (List ℕ)) → length xs ≢ 4 → four_of xs ≡ Err why.Columns
four_else [] other = refl
four_else (a ∷ []) other = refl
four_else (a ∷ b ∷ []) other = refl
four_else (a ∷ b ∷ c ∷ []) other = refl
four_else (a ∷ b ∷ c ∷ d ∷ []) other = absurd (other (omega arith))
four_else (a ∷ b ∷ c ∷ d ∷ e ∷ rest) other = refl

-- another number of fields is left
pub not_one_left : (xs : List (List ℕ)) (at : ℕ) → length xs - at ≢ 1 → one_of (drop at xs) ≡ Err why.Columns
not_one_left xs at other = one_else (drop at xs) (λ e. other (sym (length-drop at xs) ∙ e))

-- fields of which not three are left have the wrong number
pub not_three_left : (xs : List (List ℕ)) (at : ℕ) → length xs - at ≢ 3 → three_of (drop at xs) ≡ Err why.Columns
not_three_left xs at other = three_else (drop at xs) (λ e. other (sym (length-drop at xs) ∙ e))

-- and so have those of which not four are left
pub not_four_left : (xs : List (List ℕ)) (at : ℕ) → length xs - at ≢ 4 → four_of (drop at xs) ≡ Err why.Columns
not_four_left xs at other = four_else (drop at xs) (λ e. other (sym (length-drop at xs) ∙ e))

-- a record by its first two fields and the others
pub first_two : {A : Type 0} (xs : List A) (a b : A) → slice_get xs 0 ≡ Some a → slice_get xs 1 ≡ Some b → xs ≡ a ∷ b ∷ drop 2 xs
first_two xs a b first second = drop_got xs 0 a first ∙ ap (λ rest. a ∷ rest) (drop_got xs 1 b second)
