-- A record takes bytes of a text.
use Rattle.std.proofs.Common.{◌≡◌, refl, subst, ℕ, ◌<◌, Bool, true, false, List, [], ◌∷◌, ◌++◌, length, Option, Some, None, arith, inl, inr, ◌⊎◌}
use Rattle.std.specs.Prelude.{if◌then◌else◌, ◌==◌, ◌&&◌}
use Rattle.csv.specs.Machine.{Read, carriage_return, ends_at_end, ends_with, field_after, fields_after, in_field, is_end, next_record, start_field}
use Rattle.csv.specs.Machine.{start_record, step}
use Rattle.csv.specs.declared.parser.Action.{Action}
use Rattle.csv.specs.declared.parser.Action.TheVariants as act
use Rattle.csv.specs.Reading.{default_config}
use Rattle.csv.specs.declared.parser.State.{State}
use Rattle.csv.specs.declared.parser.State.TheVariants as st
use Rattle.csv.specs.declared.parser.Terminator.TheVariants as term

-- if the byte ended a record, the state after it doesn't begin another one by itself
abbrev Rests : State × Action → Type 0
Rests p = is_end p.1 ≡ true → ends_at_end p.0 ≡ false

rests_if : (b : Bool) (p q : State × Action) → Rests p → Rests q → Rests (if b then p else q)
rests_if true p q first second = first
rests_if false p q first second = second

goes_on : (s : State) (a : Action) → is_end a ≡ false → Rests (s, a)
goes_on s a goes ends = absurd (cc (goes, ends))

rests_at : (b : Bool) → ends_at_end (if b then st.AfterCr else st.StartRecord) ≡ false
rests_at true = refl
rests_at false = refl

rests_in_field : (c : ℕ) → Rests (in_field default_config c)
rests_in_field c =
    rests_if (c == 44) _ _ (goes_on st.StartField act.EndField refl)
    (rests_if (ends_with term.CRLF c) _ _ (λ _. rests_at (c == carriage_return)) (goes_on st.InField act.Copy refl))

rests_start_field : (c : ℕ) → Rests (start_field default_config c)
rests_start_field c = rests_if (true && (c == 34)) _ _ (goes_on st.InQuoted act.Skip refl) (rests_in_field c)

rests_start_record : (c : ℕ) → Rests (start_record default_config c)
rests_start_record c =
    rests_if (ends_with term.CRLF c) _ _ (goes_on st.StartRecord act.Skip refl) (rests_start_field c)

rests_after_byte : (s : State) (c : ℕ) → Rests (step default_config s c)
rests_after_byte st.StartRecord c = rests_start_record c
rests_after_byte st.StartField c = rests_start_field c
rests_after_byte st.InField c = rests_in_field c
rests_after_byte st.InQuoted c =
    rests_if (true && (c == 34)) _ _ (goes_on st.AfterQuote act.Skip refl) (goes_on st.InQuoted act.Copy refl)
rests_after_byte st.InEscape c = goes_on st.InQuoted act.Copy refl
rests_after_byte st.AfterQuote c = rests_if (true && (true && (c == 34))) _ _ (goes_on st.InQuoted act.Copy refl) (rests_in_field c)
rests_after_byte st.InComment c = rests_if (c == 10) _ _ (goes_on st.StartRecord act.Skip refl) (goes_on st.InComment act.Skip refl)
rests_after_byte st.AfterCr c = rests_if (c == 10) _ _ (goes_on st.StartRecord act.Skip refl) (rests_start_record c)

-- a record takes bytes, and the state after it doesn't begin another one by itself
abbrev TakesBytes : List ℕ → Read → Type 0
TakesBytes xs p = (length p.2 < length xs) × (ends_at_end p.1 ≡ false)

took : {A : Type 0} (b : Bool) (x y : A) (o : Option A) → (if b then Some x else o) ≡ Some y → ((b ≡ true) × (x ≡ y)) ⊎ ((b ≡ false) × (o ≡ Some y))
took true x y o e = inl (refl, cc e)
took false x y o e = inr (refl, e)

record_at_end : (s : State) (fields : List (List ℕ)) (field : List ℕ) (c : ℕ) (p : Read) → next_record default_config s fields field [] ≡ Some p
    → TakesBytes (c ∷ []) p
unfolding next_record
record_at_end s fields field c p e =
    elim (took (ends_at_end s) (fields ++ (field ∷ []), st.StartRecord, []) p None e) [
      | inl found ↦ subst (TakesBytes (c ∷ [])) found.1 (omega arith, refl)
      | inr none ↦ absurd (cc (none.1))
    ]

-- the next record takes at least the first byte
pub record_takes : (s : State) (fields : List (List ℕ)) (field : List ℕ) (c : ℕ) (rest : List ℕ) (p : Read)
    → next_record default_config s fields field (c ∷ rest) ≡ Some p → TakesBytes (c ∷ rest) p
unfolding next_record
record_takes s fields field c [] p e =
    let next = step default_config s c in
    elim (took (is_end next.1) (fields_after next.1 fields field, next.0, []) p
    (next_record default_config next.0 (fields_after next.1 fields field) (field_after next.1 c field) []) e) [
      | inl found ↦ subst (TakesBytes (c ∷ [])) found.1 (omega arith, rests_after_byte s c found.0)
      | inr more ↦ record_at_end next.0 (fields_after next.1 fields field) (field_after next.1 c field) c p more.1
    ]
record_takes s fields field c (d ∷ rest) p e =
    let next = step default_config s c in
    elim (took (is_end next.1) (fields_after next.1 fields field, next.0, d ∷ rest) p
    (next_record default_config next.0 (fields_after next.1 fields field) (field_after next.1 c field) (d ∷ rest)) e) [
      | inl found ↦ subst (TakesBytes (c ∷ d ∷ rest)) found.1 (omega arith, rests_after_byte s c found.0)
      | inr more ↦
          let (shorter, rests) = record_takes next.0 (fields_after next.1 fields field) (field_after next.1 c field) d rest p more.1 in
          (omega arith, rests)
    ]

-- at the end of the bytes there is no further record, unless one had begun
pub no_record_at_end : (s : State) → ends_at_end s ≡ false → next_record default_config s [] [] [] ≡ None
unfolding next_record
no_record_at_end s rests = rw rests refl
