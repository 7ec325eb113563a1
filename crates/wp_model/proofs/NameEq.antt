-- Names are compared by their padded bytes and their lengths, which says whether they are one list of bytes.
use Rattle.std.proofs.Common.{◌≡◌, ◌∙◌, refl, sym, ap, ap₂, ℕ, suc, arith, ◌+◌, ◌-◌, Bool, true, false, List, [], ◌∷◌, ◌++◌, length, take, eqb, eq-eqb, Decides}
use Rattle.std.specs.Prelude.{◌&&◌, ◌||◌, ◌<◌, Some, None, if◌then◌else◌, nat_lt, not, replicate}
use Rattle.std.specs.List.{list_any, position, position_or_len}
use Rattle.std.specs.Str.{bytes_eq}
use Rattle.std.proofs.Math.Seq.{take-append_seam}
use Rattle.std.proofs.lemmas.Bool.{eqb-true}
use Rattle.std.proofs.lemmas.Option.{cond_some}
use Rattle.std.proofs.lemmas.Bool.Decides.{nat_tests, same_from_decides}
use Rattle.std.proofs.lemmas.Slice.Eq.{bytes_eq-Decides}
use Rattle.wp_model.specs.Name.{padded_out}
use Rattle.wp_model.specs.TableLines.{article_in, join, number_among}
use Rattle.wp_model.specs.Step.{is_among}
use Rattle.wp_model.specs.contracts.name.NamePartialEq.TheImpl as eq

and_both : (p q : Bool) → (p && q) ≡ true → (p ≡ true) × (q ≡ true)
and_both true q e = (refl, e)
and_both false q e = absurd (cc e)

padded_same : (a b : List ℕ) → padded_out a ≡ padded_out b → length a ≡ length b → a ≡ b
padded_same a b same long =
    sym (take-append_seam a (replicate (40 - length a) 0))
    ∙ (ap (take (length a)) same ∙ (ap (λ (n : ℕ). take n (padded_out b)) long ∙ take-append_seam b (replicate (40 - length b) 0)))

-- how the type compares
abbrev pub name_eq : List ℕ → List ℕ → Bool
name_eq a b = bytes_eq (padded_out a) (padded_out b) && eqb (length a) (length b)

pub eq_is : (a b : List ℕ) → eq.eq-value.it a b ≡ name_eq a b
eq_is a b = refl

-- it says whether the bytes are the same
pub name_eq_decides : (a b : List ℕ) → Decides (name_eq a b) (a ≡ b)
name_eq_decides a b = (
  (λ e.
      let parts = and_both (bytes_eq (padded_out a) (padded_out b)) (eqb (length a) (length b)) e in
      padded_same a b ((bytes_eq-Decides (padded_out a) (padded_out b)).0 parts.0) (eqb-true (length a) (length b) parts.1)),
  (λ e. ap₂ (λ p q. p && q) ((bytes_eq-Decides (padded_out a) (padded_out b)).1 (ap padded_out e)) (eq-eqb (length a) (length b) (ap length e))),
)

-- two names are compared as their bytes are
pub name_eq_is : (a b : List ℕ) → name_eq a b ≡ bytes_eq a b
name_eq_is a b = same_from_decides (name_eq a b) (bytes_eq a b) (name_eq_decides a b) (bytes_eq-Decides a b)

flipped : (p : Bool) (a b : List ℕ) → Decides p (b ≡ a) → Decides p (a ≡ b)
flipped p a b d = ((λ e. sym (d.0 e)), (λ e. d.1 (sym e)))

-- it doesn't matter which of two texts is compared with the other
pub bytes_eq_flips : (a b : List ℕ) → bytes_eq a b ≡ bytes_eq b a
bytes_eq_flips a b = same_from_decides (bytes_eq a b) (bytes_eq b a) (bytes_eq-Decides a b) (flipped (bytes_eq b a) a b (bytes_eq-Decides b a))

pub name_eq_flips : (a b : List ℕ) → name_eq a b ≡ bytes_eq b a
name_eq_flips a b = name_eq_is a b ∙ bytes_eq_flips a b

-- whether a name is among names, as the type compares
pub among_names : (name : List ℕ) (names : List (List ℕ)) → list_any (name_eq name) names ≡ is_among names name
among_names name [] = refl
among_names name (other ∷ names) = ap₂ (λ p q. p || q) (name_eq_flips name other) (among_names name names)

-- the place of a name, as the type compares
pub number_of_name : (name : List ℕ) (names : List (List ℕ)) → position_or_len (name_eq name) names ≡ number_among names name
number_of_name name [] = refl
number_of_name name (other ∷ names) = rw (name_eq_is name other, number_of_name name names) refl

bytes_eq_self : (a : List ℕ) → bytes_eq a a ≡ true
bytes_eq_self a = (bytes_eq-Decides a a).1 refl

number_with_last : (name : List ℕ) (names : List (List ℕ)) → number_among (names ++ name ∷ []) name ≡ number_among names name
number_with_last name [] = rw (bytes_eq_self name) refl
number_with_last name (other ∷ names) = rw (number_with_last name names) refl

number_if : (b : Bool) (name : List ℕ) (names : List (List ℕ)) → number_among (if b then names else names ++ name ∷ []) name ≡ number_among names name
number_if true name names = refl
number_if false name names = number_with_last name names

-- a name that joins gets the place after the others, and one that is there keeps its place
pub number_joined : (name : List ℕ) (names : List (List ℕ)) → number_among (join names name) name ≡ number_among names name
number_joined name names = number_if (is_among names name) name names

-- what an insertion into an ordered set does
pub joins : (name : List ℕ) (names : List (List ℕ)) → (if list_any (name_eq name) names then names else names ++ name ∷ []) ≡ join names name
joins name names = rw (among_names name names) refl

suc_below : (n m : ℕ) → nat_lt (1 + n) (suc m) ≡ nat_lt n m
suc_below n m = grind (arith, nat_tests)

zero_below : (m : ℕ) → nat_lt 0 (suc m) ≡ true
zero_below m = grind (arith, nat_tests)

number_below_if : (b : Bool) (rest len : ℕ) (among : Bool) → nat_lt rest len ≡ among → nat_lt (if not b then 1 + rest else 0) (suc len) ≡ (b || among)
number_below_if true rest len among e = zero_below len
number_below_if false rest len among e = suc_below rest len ∙ e

-- a name is among names where its place is below their number
pub number_below : (name : List ℕ) (names : List (List ℕ)) → nat_lt (number_among names name) (length names) ≡ is_among names name
number_below name [] = refl
number_below name (other ∷ names) =
    rw (← bytes_eq_flips name other) (number_below_if (bytes_eq name other) (number_among names name) (length names) (is_among names name)
    (number_below name names))

-- what a look-up in an ordered set gives
pub number_found : (name : List ℕ) (names : List (List ℕ)) → position (name_eq name) names ≡ article_in names name
number_found name names = rw (number_of_name name names, number_below name names) refl

-- a name that is found is there, at its place
pub found_there : (name : List ℕ) (names : List (List ℕ)) (i : ℕ) → article_in names name ≡ Some i → (number_among names name ≡ i) × (i < length names)
    × (is_among names name ≡ true)
found_there name names i e =
    let parts = cond_some (is_among names name) (number_among names name) i e in
    let below : nat_lt (number_among names name) (length names) ≡ true = number_below name names ∙ parts.0 in
    (parts.1, grind (arith, nat_tests), parts.0)

-- a name that isn't found isn't there
pub not_there : (name : List ℕ) (names : List (List ℕ)) → article_in names name ≡ None → is_among names name ≡ false
not_there name names e = not_there_if (is_among names name) (number_among names name) e
  where
    not_there_if : (b : Bool) (n : ℕ) → (if b then Some n else None) ≡ None → b ≡ false
    not_there_if true n e = absurd (cc e)
    not_there_if false n e = refl

-- whether a list contains a name, as the type compares
pub contains_name : (name : List ℕ) (names : List (List ℕ)) → list_any (λ other. name_eq other name) names ≡ is_among names name
contains_name name [] = refl
contains_name name (other ∷ names) = ap₂ (λ p q. p || q) (name_eq_is other name) (contains_name name names)
