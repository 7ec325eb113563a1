-- Lines of names are read as the records that they were written for.
use Rattle.std.proofs.Common.{◌≡◌, ◌∙◌, refl, ap, ap₂, ℕ, zero, suc, ◌<◌, ◌≤◌, Bool, true, false, List, [], ◌∷◌, ◌++◌, length, arith, length-append, Some}
use Rattle.std.proofs.Common.{ltb-true}
use Rattle.std.specs.Prelude.{◌&&◌, ◌||◌, ◌==◌}
use Rattle.std.specs.List.{flat_map, list_all, list_any}
use Rattle.std.specs.Str.{is_utf8}
use Rattle.std.proofs.lemmas.Bool.Decides.{nat_tests}
use Rattle.std.proofs.lemmas.Str.{IsUtf8-from_ascii, is_utf8-from_IsUtf8}
use Rattle.csv.proofs.RoundTrip.{read-write}
use Rattle.csv.specs.Machine.{next_record}
use Rattle.csv.specs.Reading.{default_config, records_from}
use Rattle.csv.specs.Writing.{default_writer, field_text, fields_text, is_blank, needs_byte, row_text}
use Rattle.csv.specs.declared.parser.State.TheVariants as st
use Rattle.wp_model.specs.Name.{is_name, is_name_byte}
use Rattle.wp_model.specs.TableLines.{Record}
use Rattle.wp_model.proofs.Ascii.{name_ascii}
use Rattle.wp_tables.specs.Records.{trimmed}
use Rattle.wp_make.specs.Texts.{after_comma, record_line}
use Rattle.wp_make.proofs.Words.{and_true}

-- two tests that are true together are true each
pub both : (p q : Bool) → (p && q) ≡ true → (p ≡ true) × (q ≡ true)
both true q e = (refl, e)
both false q e = absurd (cc e)

-- a record of names, one at least
abbrev pub is_named : Record → Bool
is_named [] = false
is_named (field ∷ fields) = list_all is_name (field ∷ fields)

-- its fields are text
pub named_texts : (fields : Record) → list_all is_name fields ≡ true → list_all is_utf8 fields ≡ true
named_texts [] named = refl
named_texts (field ∷ fields) named =
    let parts = both (is_name field) (list_all is_name fields) named in
    and_true _ _ (is_utf8-from_IsUtf8 field (IsUtf8-from_ascii field (name_ascii field parts.0))) (named_texts fields parts.1)

-- none of them is empty
pub named_trimmed : (fields : Record) → list_all is_name fields ≡ true → trimmed fields ≡ fields
named_trimmed [] named = refl
named_trimmed ([] ∷ fields) named = absurd (cc (both (is_name []) (list_all is_name fields) named).0)
named_trimmed ((b ∷ bytes) ∷ fields) named =
    ap (λ (rest : Record). (b ∷ bytes) ∷ rest) (named_trimmed fields (both (is_name (b ∷ bytes)) (list_all is_name fields) named).1)

needs_none : (text : List ℕ) → list_all is_name_byte text ≡ true → list_any (needs_byte default_writer) text ≡ false
needs_none [] plain = refl
needs_none (b ∷ text) plain =
    let parts = both (is_name_byte b) (list_all is_name_byte text) plain in
    neither _ _ (byte b parts.0) (needs_none text parts.1)
  where
    neither : (p q : Bool) → p ≡ false → q ≡ false → (p || q) ≡ false
    neither p q e f = ap₂ (λ a b. a || b) e f

    byte : (b : ℕ) → is_name_byte b ≡ true → needs_byte default_writer b ≡ false
    byte b plain = grind (arith, nat_tests)

-- a name is written without quotes
unquoted : (field : List ℕ) → is_name field ≡ true → field_text default_writer field ≡ field
unquoted field named =
    let plain : list_all is_name_byte field ≡ true = (both _ _ (both _ _ named).1).1 in
    rw (needs_none field plain) refl

all_unquoted : (fields : Record) → list_all is_name fields ≡ true → fields_text default_writer fields ≡ flat_map after_comma fields
unfolding fields_text
all_unquoted [] named = refl
all_unquoted (field ∷ fields) named =
    let parts = both (is_name field) (list_all is_name fields) named in
    ap₂ (λ (a b : List ℕ). 44 ∷ (a ++ b)) (unquoted field parts.0) (all_unquoted fields parts.1)

not_blank : (field : List ℕ) (fields : Record) → is_name field ≡ true → is_blank default_writer (field ∷ fields) ≡ false
unfolding is_blank
not_blank field [] named =
    let some : 0 < length field = ltb-true 0 (length field) (both _ _ named).0 in
    ap (λ (text : List ℕ). length text == 0) (unquoted field named) ∙ not_zero (length field) some
  where
    not_zero : (n : ℕ) → 0 < n → (n == 0) ≡ false
    not_zero n some = grind (arith, nat_tests)
not_blank field (next ∷ more) named = refl

-- the line of a record is what the default writer of tables writes for it
line_written : (fields : Record) → is_named fields ≡ true → record_line fields ≡ row_text default_writer fields
line_written [] named = absurd (cc named)
line_written (field ∷ fields) named =
    let parts = both (is_name field) (list_all is_name fields) named in
    rw (not_blank field fields parts.0, unquoted field parts.0, all_unquoted fields parts.1) refl

line_read : (fields : Record) (rest : List ℕ) → is_named fields ≡ true
    → next_record default_config st.StartRecord [] [] (record_line fields ++ rest) ≡ Some (fields, st.StartRecord, rest)
line_read [] rest named = absurd (cc named)
line_read (field ∷ fields) rest named =
    ap (λ (text : List ℕ). next_record default_config st.StartRecord [] [] (text ++ rest)) (line_written (field ∷ fields) named)
    ∙ read-write (field ∷ fields) rest

-- lines are read again as their records
pub lines_read : (records : List Record) (n : ℕ) → list_all is_named records ≡ true → length records ≤ n
    → records_from default_config n st.StartRecord (flat_map record_line records) ≡ records
unfolding records_from next_record
lines_read [] zero named few = refl
lines_read [] (suc n) named few = refl
lines_read (fields ∷ records) zero named few = absurd (omega arith)
lines_read (fields ∷ records) (suc n) named few =
    let parts = both (is_named fields) (list_all is_named records) named in
    rw (line_read fields (flat_map record_line records) parts.0)
    (ap (λ (rest : List Record). fields ∷ rest) (lines_read records n parts.1 (omega arith)))

some_bytes : (fields : Record) → 0 < length (record_line fields)
some_bytes [] = omega arith
some_bytes (field ∷ fields) = omega (arith, length-append (field ++ flat_map after_comma fields) (10 ∷ []))

-- there are no more records than bytes
pub few_records : (records : List Record) → length records ≤ length (flat_map record_line records)
few_records [] = omega arith
few_records (fields ∷ records) = omega (arith, few_records records, some_bytes fields, length-append (record_line fields) (flat_map record_line records))
