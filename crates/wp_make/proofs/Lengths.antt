-- Made texts are short.
use Rattle.std.proofs.Common.{◌≡◌, ℕ, zero, suc, ◌+◌, ◌*◌, ◌<◌, ◌≤◌, true, List, [], ◌∷◌, ◌++◌, length, arith, length-append}
use Rattle.std.specs.Prelude.{map}
use Rattle.std.specs.List.{flat_map, list_all, range_with_len}
use Rattle.std.proofs.lemmas.Bool.{leb-true}
use Rattle.wp_model.specs.Name.{is_name}
use Rattle.wp_model.specs.TableLines.{Record}
use Rattle.wp_make.specs.Texts.{after_comma, record_line, table_text}
use Rattle.wp_make.proofs.Lines.{both, is_named}

-- how many fields records have together
abbrev pub field_count : List Record → ℕ
field_count [] = 0
field_count (fields ∷ records) = length fields + field_count records

count_on : (front back : List Record) → field_count (front ++ back) ≡ field_count front + field_count back
count_on [] back = omega arith
count_on (fields ∷ front) back = omega (arith, count_on front back)

-- records for one number after another, each of so many fields at most, have no more than as often as many
pub count_each : (f : ℕ → List Record) (most first n : ℕ) → ((k : ℕ) → first ≤ k → k < first + n → field_count (f k) ≤ most)
    → field_count (flat_map f (range_with_len first n)) ≤ most * n
count_each f most first zero each = omega arith
count_each f most first (suc n) each =
    let rest = count_each f most (first + 1) n (λ k low high. each k (omega arith) (omega arith)) in
    let here = each first (omega arith) (omega arith) in
    omega (arith, count_on (f first) (flat_map f (range_with_len (first + 1) n)), here, rest)

-- and so have one record for each
pub count_mapped : {A : Type 0} (f : A → Record) (most : ℕ) (xs : List A) → ((x : A) → length (f x) ≤ most) → field_count (map f xs) ≤ most * length xs
count_mapped f most [] each = omega arith
count_mapped f most (x ∷ xs) each = omega (arith, each x, count_mapped f most xs each)

name_short : (name : List ℕ) → is_name name ≡ true → length name ≤ 40
name_short name named = leb-true (length name) 40 (both _ _ (both _ _ named).1).0

fields_short : (fields : Record) → list_all is_name fields ≡ true → length (flat_map after_comma fields) ≤ 41 * length fields
fields_short [] named = omega arith
fields_short (field ∷ fields) named =
    let parts = both (is_name field) (list_all is_name fields) named in
    omega (arith, name_short field parts.0, fields_short fields parts.1, length-append field (flat_map after_comma fields))

line_short : (fields : Record) → is_named fields ≡ true → length (record_line fields) ≤ 41 * length fields
line_short [] named = absurd (cc named)
line_short (field ∷ fields) named =
    let parts = both (is_name field) (list_all is_name fields) named in
    omega (
      arith,
      name_short field parts.0,
      fields_short fields parts.1,
      length-append field (flat_map after_comma fields),
      length-append (field ++ flat_map after_comma fields) (10 ∷ []),
    )

lines_short : (records : List Record) → list_all is_named records ≡ true → length (flat_map record_line records) ≤ 41 * field_count records
lines_short [] named = omega arith
lines_short (fields ∷ records) named =
    let parts = both (is_named fields) (list_all is_named records) named in
    omega (arith, line_short fields parts.0, lines_short records parts.1, length-append (record_line fields) (flat_map record_line records))

-- a table of names is no longer than its fields are many
pub table_short : (heading : Record) (records : List Record) → is_named heading ≡ true → list_all is_named records ≡ true
    → length (table_text heading records) ≤ 41 * (length heading + field_count records)
table_short heading records named all =
    omega (arith, line_short heading named, lines_short records all, length-append (record_line heading) (flat_map record_line records))
