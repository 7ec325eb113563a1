-- What is found in lists.
use Rattle.std.proofs.Common.{◌≡◌, ℕ, suc, ◌+◌, ◌<◌, List, [], ◌∷◌, length, slice_get, Option, Some, None, Bool, true, false, bytes_eq, if◌then◌else◌, refl}
use Rattle.std.proofs.Common.{ap, inl, inr, ◌⊎◌, ◌∙◌, arith}
use Rattle.std.specs.Option.{option_map_or}
use Rattle.wp_model.specs.Sound.{IsSound}
use Rattle.wp_model.specs.State.{State, Wave}
use Rattle.wp_model.specs.Step.{Stepped, at_wave, place_from, row_from, same_location, wave_from}
use Rattle.wp_model.specs.Opening.{Opening}
use Rattle.wp_model.specs.declared.location.Location.{Location}
use Rattle.wp_model.specs.declared.row.Row.{Row}

-- what holds of a choice by what was found, where it holds either way
pub option_map_or-both : {X Y : Type 0} (P : Y → Type 0) (f : X → Y) (found : Option X) (other : Y) → ((x : X) → found ≡ Some x → P (f x))
    → (found ≡ None → P other) → P (option_map_or f found other)
option_map_or-both P f None other some none = none refl
option_map_or-both P f (Some x) other some none = some x refl

-- where a choice gives a value
pub if-some : {X : Type 0} (test : Bool) (x y : X) (other : Option X) → (if test then Some x else other) ≡ Some y → (x ≡ y) ⊎ (other ≡ Some y)
if-some true x y other is = inl (cc)
if-some false x y other is = inr is

-- a number counted from one on is a place's
abbrev IsAt : {X : Type 0} → List X → ℕ → ℕ × X → Type 0
IsAt xs number found = (k : ℕ) × (found.0 ≡ number + k) × (slice_get xs k ≡ Some found.1)

at_first : {X : Type 0} (xs : List X) (number : ℕ) (x : X) (found : ℕ × X) → (number, x) ≡ found → IsAt (x ∷ xs) number found
at_first {X} xs number x found e =
    let same : number ≡ found.0 = ap (λ (f : ℕ × X). f.0) e in
    (0, omega arith, ap (λ (f : ℕ × X). Some f.1) e)

at_rest : {X : Type 0} (xs : List X) (number : ℕ) (x : X) (found : ℕ × X) → IsAt xs (number + 1) found → IsAt (x ∷ xs) number found
at_rest xs number x found at = (suc at.0, omega (arith, at.1), at.2)

wave_from-at : (number : ℕ) (waves : List Wave) (name : List ℕ) (found : ℕ × Wave) → wave_from number waves name ≡ Some found → IsAt waves number found
wave_from-at number [] name found is = absurd (cc)
wave_from-at number (w ∷ waves) name found is = elim (if-some (bytes_eq w.name name) (number, w) found (wave_from (number + 1) waves name) is) [
  | inl here ↦ at_first waves number w found here
  | inr later ↦ at_rest waves number w found (wave_from-at (number + 1) waves name found later)
]

row_from-at : (number : ℕ) (rows : List Row) (location : Location) (found : ℕ × Row) → row_from number rows location ≡ Some found → IsAt rows number found
row_from-at number [] location found is = absurd (cc)
row_from-at number (r ∷ rows) location found is = elim (if-some (same_location r.location location) (number, r) found
    (row_from (number + 1) rows location) is) [
      | inl here ↦ at_first rows number r found here
      | inr later ↦ at_rest rows number r found (row_from-at (number + 1) rows location found later)
    ]

from_start : {X : Type 0} (xs : List X) (found : ℕ × X) → IsAt xs 0 found → slice_get xs found.0 ≡ Some found.1
from_start xs found at = ap (slice_get xs) (omega (arith, at.1)) ∙ at.2

-- a wave, a row and a place that were found
pub wave_found : (waves : List Wave) (name : List ℕ) (found : ℕ × Wave) → wave_from 0 waves name ≡ Some found → slice_get waves found.0 ≡ Some found.1
wave_found waves name found is = from_start waves found (wave_from-at 0 waves name found is)

-- a row that is found at a location stands in the list, under its number
pub row_found : (rows : List Row) (location : Location) (found : ℕ × Row) → row_from 0 rows location ≡ Some found → slice_get rows found.0 ≡ Some found.1
row_found rows location found is = from_start rows found (row_from-at 0 rows location found is)

place_from-within : (place : ℕ) (names : List (List ℕ)) (name : List ℕ) (found : ℕ) → place_from place names name ≡ Some found → found < place + length names
place_from-within place [] name found is = absurd (cc)
place_from-within place (other ∷ names) name found is = elim (if-some (bytes_eq other name) place found (place_from (place + 1) names name) is) [
  | inl here ↦ omega arith
  | inr later ↦ omega (arith, place_from-within (place + 1) names name found later)
]

-- a name that is found in a list has a place in it
pub place_found : (names : List (List ℕ)) (name : List ℕ) (found : ℕ) → place_from 0 names name ≡ Some found → found < length names
place_found names name found is = omega (arith, place_from-within 0 names name found is)

-- a command on a wave keeps a state sound where it does at the wave with a number
pub at_wave_keeps_sound : (opening : Opening) (state : State) (name : List ℕ) (change : ℕ → Wave → Stepped) → IsSound opening state
    → ((number : ℕ) (w : Wave) → slice_get state.waves number ≡ Some w → IsSound opening (change number w).state)
    → IsSound opening (at_wave state name change).state
at_wave_keeps_sound opening state name change sound each =
    option_map_or-both (λ (stepped : Stepped). IsSound opening stepped.state) (λ (found : ℕ × Wave). change found.0 found.1) (wave_from 0 state.waves name) _
    (λ found is. each found.0 found.1 (wave_found state.waves name found is))
    (λ none. sound)
