-- The fault of records is that of the first that fails, and it has its number.
use Rattle.std.proofs.Common.{◌≡◌, ◌∙◌, refl, sym, ap, ℕ, zero, suc, ◌+◌, List, [], ◌∷◌, Result, Ok, Err, Some, arith}
use Rattle.std.specs.Prelude.{slice_get}
use Rattle.std.specs.List.{All, AllByRecursion}
use Rattle.std.proofs.lemmas.List.Elements.{All-from_recursion}
use Rattle.wp_model.specs.TableLines.{Record}
use Rattle.wp_tables.specs.Reading.{IsFirstFault, at_row, fault_at, made_by}
use Rattle.wp_model.specs.Outcomes.{and_then}
use Rattle.wp_tables.specs.Records.{IsAmong, Kept, kept_before, kept_from, kept_in, records_in, trimmed}
use Rattle.wp_tables.specs.declared.fault.RowFault.{RowFault}
use Rattle.wp_tables.specs.declared.fault.Why.{Why}

first_or_later : {A : Type 0} (next : A → Record → Result A Why) (nothing : A) (kept : Kept) (more : List Kept) (fault : RowFault) (given : Result A Why)
    → next nothing kept.fields ≡ given
    → and_then (at_row kept.number given) (λ made. made_by next made more) ≡ Err fault
    → ((made : A) → made_by next made more ≡ Err fault → IsFirstFault next made more fault) → IsFirstFault next nothing (kept ∷ more) fault
first_or_later next nothing kept more fault (Err why) is e later =
    let same : fault_at kept.number why ≡ fault = cc e in
    record {
      before = [];
      failing = kept;
      others = more;
      made = nothing;
      parts = refl;
      passed = refl;
      fails = is ∙ ap (λ (f : RowFault). Err f.why) same;
      number = sym (ap (λ (f : RowFault). f.row) same);
    }
first_or_later next nothing kept more fault (Ok made) is e later =
    let first = later made e in
    record {
      before = kept ∷ first.before;
      failing = first.failing;
      others = first.others;
      made = first.made;
      parts = ap (λ rest. kept ∷ rest) first.parts;
      passed = rw is first.passed;
      fails = first.fails;
      number = first.number;
    }

-- the first record that fails gives the fault
pub first_fault : {A : Type 0} (next : A → Record → Result A Why) (nothing : A) (records : List Kept) (fault : RowFault)
    → made_by next nothing records ≡ Err fault → IsFirstFault next nothing records fault
first_fault next nothing [] fault e = absurd (cc e)
first_fault next nothing (kept ∷ more) fault e =
    first_or_later next nothing kept more fault (next nothing kept.fields) refl e (λ made failed. first_fault next made more fault failed)

-- the same with numbers from another on
pub record IsAmongFrom (n : ℕ) (records : List Record) (kept : Kept) : Type 0 where
  pub place : ℕ
  pub fields : Record
  pub at : slice_get records place ≡ Some fields
  pub number : kept.number ≡ place + n
  pub trims : kept.fields ≡ trimmed fields

later_too : (n : ℕ) (first : Record) (records : List Record) (kept : List Kept) → AllByRecursion (IsAmongFrom (n + 1) records) kept
    → AllByRecursion (IsAmongFrom n (first ∷ records)) kept
later_too n first records [] all = tt
later_too n first records (k ∷ kept) all =
    let is = all.0 in
    (record { place = suc is.place; fields = is.fields; at = is.at; number = omega (arith, is.number); trims = is.trims }, later_too n first records kept all.1)

kept_or_not : (n : ℕ) (first : Record) (records : List Record) (left : Record) (kept : List Kept) → trimmed first ≡ left
    → AllByRecursion (IsAmongFrom n (first ∷ records)) kept
    → AllByRecursion (IsAmongFrom n (first ∷ records)) (kept_before n left kept)
kept_or_not n first records [] kept is all = all
kept_or_not n first records (field ∷ fields) kept is all = (record { place = zero; fields = first; at = refl; number = omega arith; trims = sym is }, all)

numbered_from : (n : ℕ) (records : List Record) → AllByRecursion (IsAmongFrom n records) (kept_from n records)
numbered_from n [] = tt
numbered_from n (first ∷ records) =
    kept_or_not n first records (trimmed first) (kept_from (n + 1) records) refl
    (later_too n first records (kept_from (n + 1) records) (numbered_from (n + 1) records))

from_one : (records : List Record) (kept : List Kept) → AllByRecursion (IsAmongFrom 1 records) kept → AllByRecursion (IsAmong records) kept
from_one records [] all = tt
from_one records (k ∷ kept) all =
    let is = all.0 in
    (record { place = is.place; fields = is.fields; at = is.at; number = is.number; trims = is.trims }, from_one records kept all.1)

-- the records that are kept have their numbers in the file
pub numbered : (text : List ℕ) → All (IsAmong (records_in text)) (kept_in text)
numbered text = All-from_recursion (IsAmong (records_in text)) (kept_in text) (from_one (records_in text) (kept_in text) (numbered_from 1 (records_in text)))
