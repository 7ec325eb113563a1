-- How many times names stand in lists.
use Rattle.std.proofs.Common.{◌≡◌, ◌∙◌, refl, sym, ap, ℕ, suc, ◌+◌, ◌≤◌, ◌||◌, Bool, true, false, List, [], ◌∷◌, map, Some, slice_get}
use Rattle.std.proofs.Common.{arith, bytes_eq, if◌then◌else◌, inl, inr}
use Rattle.std.proofs.lemmas.Bool.{cases_Bool, cond-false, cond-true, false_from_ne_true}
use Rattle.std.proofs.lemmas.List.Sums.{sum_by-cons}
use Rattle.std.proofs.lemmas.Slice.Eq.{bytes_eq-Decides}
use Rattle.std.specs.List.{sum_by}
use Rattle.wp_model.specs.Sound.{AreDifferent}
use Rattle.wp_model.specs.Step.{is_among}

-- one where two names are the same
abbrev pub one_named : List ℕ → List ℕ → ℕ
one_named name other = if bytes_eq other name then 1 else 0

-- how many times a name stands among names
abbrev pub times : List ℕ → List (List ℕ) → ℕ
times name names = sum_by (one_named name) names

pub one_itself : (name : List ℕ) → one_named name name ≡ 1
one_itself name = cond-true (bytes_eq name name) 1 0 ((bytes_eq-Decides name name).1 refl)

none_if : (test among : Bool) (rest : ℕ) → (if test then 1 else 0) + rest ≡ 0 → (rest ≡ 0 → among ≡ false) → (test || among) ≡ false
none_if true among rest none later = absurd (omega arith)
none_if false among rest none later = later (omega arith)

-- a name that stands nowhere among names isn't one of them
pub none_among : (name : List ℕ) (names : List (List ℕ)) → times name names ≡ 0 → is_among names name ≡ false
none_among name [] none = refl
none_among name (other ∷ names) none =
    none_if (bytes_eq other name) (is_among names name) (times name names) (sym (sum_by-cons (one_named name) other names) ∙ none) (none_among name names)

no_times : (name : List ℕ) (names : List (List ℕ)) → ((k : ℕ) → slice_get names k ≡ Some name → ⊥) → times name names ≡ 0
no_times name [] never = refl
no_times name (other ∷ names) never =
    let not : bytes_eq other name ≡ false =
    false_from_ne_true (bytes_eq other name) (λ same. never 0 (ap (λ (n : List ℕ). Some n) ((bytes_eq-Decides other name).0 same))) in
    let here : one_named name other ≡ 0 = cond-false (bytes_eq other name) 1 0 not in
    omega (arith, sum_by-cons (one_named name) other names, here, no_times name names (λ k at. never (suc k) at))

-- of different names none stands twice
pub different_once : (names : List (List ℕ)) → AreDifferent names → (name : List ℕ) → times name names ≤ 1
different_once [] different name = omega arith
different_once (other ∷ names) different name = elim (cases_Bool (bytes_eq other name)) [
  | inl same ↦
      let e : other ≡ name = (bytes_eq-Decides other name).0 same in
      let none = no_times name names (λ k at.
      let twice : 0 ≡ suc k = different 0 (suc k) name (ap (λ (n : List ℕ). Some n) e) at in
      absurd (omega arith)) in
      let here : one_named name other ≡ 1 = cond-true (bytes_eq other name) 1 0 same in
      omega (arith, sum_by-cons (one_named name) other names, here, none)
  | inr not ↦
      let here : one_named name other ≡ 0 = cond-false (bytes_eq other name) 1 0 not in
      let rest = different_once names (λ i j x at_i at_j.
      let e : suc i ≡ suc j = different (suc i) (suc j) x at_i at_j in
      let same : i ≡ j = omega arith in
      same) name in
      omega (arith, sum_by-cons (one_named name) other names, here, rest)
]

-- a name stands as often among the names of items as items have it
pub times_map : {X : Type 0} (key : X → List ℕ) (name : List ℕ) (xs : List X) → times name (map key xs) ≡ sum_by (λ x. one_named name (key x)) xs
times_map key name [] = refl
times_map {X} key name (x ∷ xs) =
    omega (arith, sum_by-cons (one_named name) (key x) (map key xs), sum_by-cons (λ (y : X). one_named name (key y)) x xs, times_map key name xs)
