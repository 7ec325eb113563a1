-- What the records of a made table make, one after the other.
use Rattle.std.proofs.Common.{◌≡◌, ◌∙◌, refl, ap, subst, ℕ, zero, suc, ◌+◌, ◌<◌, ◌≤◌, true, List, [], ◌∷◌, ◌++◌, length, Ok, Err, arith}
use Rattle.std.specs.Prelude.{Result, map}
use Rattle.std.specs.List.{flat_map, list_all, range_with_len}
use Rattle.std.proofs.lemmas.List.Concat.{flat_map_single}
use Rattle.std.proofs.lemmas.List.Folds.{list_all-append}
use Rattle.csv.specs.Reading.{default_config, records as all_records, strip_bom}
use Rattle.wp_model.specs.Outcomes.{and_then}
use Rattle.wp_model.specs.TableLines.{Record, same_record}
use Rattle.wp_tables.specs.Reading.{at_row, made_by, table_of}
use Rattle.wp_tables.specs.Records.{kept_from, kept_in, records_in}
use Rattle.wp_tables.specs.declared.fault.Why.{Why}
use Rattle.wp_make.specs.Texts.{table_text}
use Rattle.wp_make.proofs.Lines.{both, few_records, is_named, lines_read, named_trimmed}
use Rattle.wp_make.proofs.Words.{and_true}

-- what records make of what was made before them
abbrev pub made_from : {A : Type 0} → (A → Record → Result A Why) → A → List Record → Result A Why
made_from next made [] = Ok made
made_from next made (fields ∷ records) = and_then (next made fields) (λ made. made_from next made records)

-- records of names make something that keeps to this
pub record Makes {A : Type 0} (next : A → Record → Result A Why) (made : A) (records : List Record) (Kept : A → Type 0) : Type 0 where
  pub after : A
  pub is : made_from next made records ≡ Ok after
  pub named : list_all is_named records ≡ true
  pub keeps : Kept after

-- none make what was made
pub makes_nothing : {A : Type 0} (next : A → Record → Result A Why) (made : A) (Kept : A → Type 0) → Kept made → Makes next made [] Kept
makes_nothing next made Kept keeps = record { after = made; is = refl; named = refl; keeps = keeps }

-- one makes what it makes
pub makes_one : {A : Type 0} (next : A → Record → Result A Why) (made after : A) (fields : Record) (Kept : A → Type 0) → next made fields ≡ Ok after
    → is_named fields ≡ true → Kept after → Makes next made (fields ∷ []) Kept
makes_one next made after fields Kept is named keeps = record {
  after = after;
  is = rw is refl;
  named = and_true _ _ named refl;
  keeps = keeps;
}

made_on : {A : Type 0} (next : A → Record → Result A Why) (made middle : A) (front back : List Record) → made_from next made front ≡ Ok middle
    → made_from next made (front ++ back) ≡ made_from next middle back
made_on {A = A} next made middle [] back e = let same : made ≡ middle = cc e in ap (λ made. made_from next made back) same
made_on {A = A} next made middle (fields ∷ front) back e = step (next made fields) e (λ made e. made_on next made middle front back e)
  where
    step : (first : Result A Why) → and_then first (λ made. made_from next made front) ≡ Ok middle
        → ((made : A) → made_from next made front ≡ Ok middle → made_from next made (front ++ back) ≡ made_from next middle back)
        → and_then first (λ made. made_from next made (front ++ back)) ≡ made_from next middle back
    step (Ok made) e rest = rest made e
    step (Err why) e rest = absurd (cc e)

-- records after others
pub makes_on : {A : Type 0} (next : A → Record → Result A Why) (made : A) (front back : List Record) (Kept Last : A → Type 0)
    → (first : Makes next made front Kept) → Makes next first.after back Last → Makes next made (front ++ back) Last
makes_on next made front back Kept Last first second = record {
  after = second.after;
  is = made_on next made first.after front back first.is ∙ second.is;
  named = list_all-append is_named front back ∙ and_true _ _ first.named second.named;
  keeps = second.keeps;
}

-- records for one number after another
pub makes_each : {A : Type 0} (next : A → Record → Result A Why) (f : ℕ → List Record) (Kept : ℕ → A → Type 0) (n first : ℕ)
    → ((k : ℕ) (made : A) → first ≤ k → k < first + n → Kept k made → Makes next made (f k) (Kept (k + 1)))
    → (made : A) → Kept first made → Makes next made (flat_map f (range_with_len first n)) (Kept (first + n))
makes_each next f Kept zero first each made keeps =
    let e : first ≡ first + 0 = omega arith in makes_nothing next made (Kept (first + 0)) (subst (λ k. Kept k made) e keeps)
makes_each next f Kept (suc n) first each made keeps =
    let here = each first made (omega arith) (omega arith) keeps in
    let e : (first + 1) + n ≡ first + suc n = omega arith in
    let rest = makes_each next f Kept n (first + 1) (λ k made low high kept. each k made (omega arith) (omega arith) kept) here.after here.keeps in
    subst (λ k. Makes next made (f first ++ flat_map f (range_with_len (first + 1) n)) (Kept k)) e
    (makes_on next made (f first) (flat_map f (range_with_len (first + 1) n)) (Kept (first + 1)) (Kept ((first + 1) + n)) here rest)

-- one record for each
pub makes_each_one : {A : Type 0} (next : A → Record → Result A Why) (f : ℕ → Record) (Kept : ℕ → A → Type 0) (n first : ℕ)
    → ((k : ℕ) (made : A) → first ≤ k → k < first + n → Kept k made → Makes next made (f k ∷ []) (Kept (k + 1)))
    → (made : A) → Kept first made → Makes next made (map f (range_with_len first n)) (Kept (first + n))
makes_each_one next f Kept n first each made keeps =
    subst (λ records. Makes next made records (Kept (first + n))) (flat_map_single f (range_with_len first n))
    (makes_each next (λ k. f k ∷ []) Kept n first each made keeps)

kept_all : {A : Type 0} (next : A → Record → Result A Why) (made after : A) (records : List Record) (number : ℕ) → list_all is_named records ≡ true
    → made_from next made records ≡ Ok after → made_by next made (kept_from number records) ≡ Ok after
kept_all {A = A} next made after [] number named is = let same : made ≡ after = cc is in ap Ok same
kept_all {A = A} next made after ([] ∷ records) number named is = absurd (cc (both (is_named []) (list_all is_named records) named).0)
kept_all {A = A} next made after ((field ∷ fields) ∷ records) number named is =
    let parts = both (is_named (field ∷ fields)) (list_all is_named records) named in
    rw (named_trimmed (field ∷ fields) parts.0)
    (step (next made (field ∷ fields)) is (λ made is. kept_all next made after records (number + 1) parts.1 is))
  where
    step : (first : Result A Why) → and_then first (λ made. made_from next made records) ≡ Ok after
        → ((made : A) → made_from next made records ≡ Ok after → made_by next made (kept_from (number + 1) records) ≡ Ok after)
        → and_then (at_row number first) (λ made. made_by next made (kept_from (number + 1) records)) ≡ Ok after
    step (Ok made) is rest = rest made is
    step (Err why) is rest = absurd (cc is)

-- a table says what its records make
pub table_said : {A : Type 0} (next : A → Record → Result A Why) (nothing : A) (heading : Record) (records : List Record) (Kept : A → Type 0)
    → is_named heading ≡ true → same_record heading heading ≡ true → strip_bom (table_text heading records) ≡ table_text heading records
    → (makes : Makes next nothing records Kept) → table_of heading next nothing (kept_in (table_text heading records)) ≡ Ok makes.after
table_said next nothing [] records Kept named same bare makes = absurd (cc named)
table_said next nothing (field ∷ fields) records Kept named same bare makes =
    let heading : Record = field ∷ fields in
    let text = table_text heading records in
    let read : records_in text ≡ heading ∷ records =
    ap (all_records default_config) bare
    ∙ lines_read (heading ∷ records) (length text + 1) (and_true _ _ named makes.named) (omega (arith, few_records (heading ∷ records))) in
    rw (read, named_trimmed heading named, same) (kept_all next nothing makes.after records 2 makes.named makes.is)
