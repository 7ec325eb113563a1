-- Waves that are found by their names, after one of them was changed.
use Rattle.std.proofs.Common.{◌≡◌, ◌∙◌, refl, sym, ap, ℕ, zero, suc, ◌+◌, Bool, true, false, List, [], ◌∷◌, Some, arith, bytes_eq}
use Rattle.std.proofs.Common.{if◌then◌else◌, slice_get}
use Rattle.std.proofs.lemmas.Option.{same_Some}
use Rattle.std.proofs.lemmas.Slice.Eq.{bytes_eq-Decides}
use Rattle.std.specs.Option.{option_map_or}
use Rattle.std.specs.Prelude.{slice_set}
use Rattle.wp_model.specs.State.{State, Wave}
use Rattle.wp_model.specs.Step.{Stepped, at_wave, refuse, wave_from}
use Rattle.wp_model.specs.declared.reply.Reply.TheVariants as reply

-- the wave that is found by a name has it
pub found_named : (first : ℕ) (waves : List Wave) (name : List ℕ) (found : ℕ × Wave) → wave_from first waves name ≡ Some found → found.1.name ≡ name
found_named first [] name found is = absurd (cc is)
found_named first (w ∷ waves) name found is =
    by (λ later. found_named (first + 1) waves name found later) (bytes_eq w.name name) (bytes_eq-Decides w.name name).0 is
  where
    by : (wave_from (first + 1) waves name ≡ Some found → found.1.name ≡ name) → (same : Bool) → (same ≡ true → w.name ≡ name)
        → (if same then Some (first, w) else wave_from (first + 1) waves name) ≡ Some found → found.1.name ≡ name
    by rest true named here =
        let own : found ≡ (first, w) = sym (same_Some (first, w) found here) in
        ap (λ (f : ℕ × Wave). f.1.name) own ∙ named refl
    by rest false named later = rest later

-- one that changes but for its name is found where it was
pub found_put : (first : ℕ) (waves : List Wave) (name : List ℕ) (k : ℕ) (w changed : Wave) → wave_from first waves name ≡ Some (first + k, w)
    → changed.name ≡ w.name → wave_from first (slice_set waves k changed) name ≡ Some (first + k, changed)
found_put first [] name k w changed is same = absurd (cc is)
found_put first (v ∷ waves) name zero w changed is same =
    let named : changed.name ≡ name = same ∙ found_named first (v ∷ waves) name (first + zero, w) is in
    let e : first ≡ first + zero = omega arith in
    ap (λ b. if b then Some (first, changed) else wave_from (first + 1) waves name) ((bytes_eq-Decides changed.name name).1 named)
    ∙ ap (λ (n : ℕ). Some (n, changed)) e
found_put first (v ∷ waves) name (suc k) w changed is same =
    by (bytes_eq v.name name) is (λ later. found_put (first + 1) waves name k w changed later same)
  where
    e : first + suc k ≡ first + 1 + k
    e = omega arith

    by : (test : Bool) → (if test then Some (first, v) else wave_from (first + 1) waves name) ≡ Some (first + suc k, w)
        → (wave_from (first + 1) waves name ≡ Some (first + 1 + k, w) → wave_from (first + 1) (slice_set waves k changed) name ≡ Some (first + 1 + k, changed))
        → (if test then Some (first, v) else wave_from (first + 1) (slice_set waves k changed) name) ≡ Some (first + suc k, changed)
    by true here rest =
        let number : first ≡ first + suc k = ap (λ (f : ℕ × Wave). f.0) (same_Some (first, v) (first + suc k, w) here) in
        absurd (omega (arith, number))
    by false later rest = rest (later ∙ ap (λ (n : ℕ). Some (n, w)) e) ∙ ap (λ (n : ℕ). Some (n, changed)) (sym e)

-- and one of another name as it was
pub found_put_other : (first : ℕ) (waves : List Wave) (name : List ℕ) (k : ℕ) (w changed : Wave) → slice_get waves k ≡ Some w → changed.name ≡ w.name
    → bytes_eq w.name name ≡ false → wave_from first (slice_set waves k changed) name ≡ wave_from first waves name
found_put_other first [] name k w changed there same other = refl
found_put_other first (v ∷ waves) name zero w changed there same other =
    let own : v ≡ w = cc there in
    let now : bytes_eq changed.name name ≡ false = ap (λ (n : List ℕ). bytes_eq n name) same ∙ other in
    let was : bytes_eq v.name name ≡ false = ap (λ (u : Wave). bytes_eq u.name name) own ∙ other in
    ap (λ b. if b then Some (first, changed) else wave_from (first + 1) waves name) now
    ∙ sym (ap (λ b. if b then Some (first, v) else wave_from (first + 1) waves name) was)
found_put_other first (v ∷ waves) name (suc k) w changed there same other =
    ap (λ found. if bytes_eq v.name name then Some (first, v) else found) (found_put_other (first + 1) waves name k w changed there same other)

-- the wave of a name in a state, changed but for its name
pub next_is_found : (state : State) (name : List ℕ) (number : ℕ) (w changed : Wave) → wave_from 0 state.waves name ≡ Some (number, w)
    → changed.name ≡ w.name → wave_from 0 (slice_set state.waves number changed) name ≡ Some (number, changed)
next_is_found state name number w changed found same =
    let e : number ≡ 0 + number = omega arith in
    found_put 0 state.waves name number w changed (found ∙ ap (λ (n : ℕ). Some (n, w)) e) same ∙ ap (λ (n : ℕ). Some (n, changed)) (sym e)

-- what a command does to the wave of a name that is found
pub at_found : (state : State) (name : List ℕ) (change : ℕ → Wave → Stepped) (number : ℕ) (w : Wave) → wave_from 0 state.waves name ≡ Some (number, w)
    → at_wave state name change ≡ change number w
at_found state name change number w found =
    ap (λ found. option_map_or (λ (f : ℕ × Wave). change f.0 f.1) found (refuse state reply.UnknownWave)) found
