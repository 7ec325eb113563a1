-- The bytes of the journal's words.
use Rattle.std.proofs.Common.{◌≡◌, ◌∙◌, refl, ap, ap₂, subst, ℕ, ◌<◌, ◌≤◌, ◌^◌, Bool, true, false, List, [], ◌∷◌, ◌++◌, arith, leb-true, lit<}
use Rattle.std.specs.Prelude.{◌&&◌, codes, nat_le, not}
use Rattle.std.specs.Fmt.{decimal}
use Rattle.std.specs.List.{list_all}
use Rattle.std.specs.Str.Parse.{AllDigits}
use Rattle.std.proofs.lemmas.Bool.Decides.{Decides-eqb, nat_tests}
use Rattle.std.proofs.lemmas.Fmt.{decimal_is_IsNumeral}
use Rattle.std.proofs.lemmas.List.Folds.{list_all-append}
use Rattle.std.proofs.lemmas.Slice.Eq.{bytes_eq-Decides}
use Rattle.std.proofs.lemmas.Str.Parse.{digit_from_value}
use Rattle.wp_model.specs.Journal.{location_text, side_text}
use Rattle.wp_model.specs.Location.{is_dash}
use Rattle.wp_model.specs.Name.{is_name, is_name_byte}
use Rattle.wp_model.specs.Plain.{is_plain_location}
use Rattle.wp_model.specs.declared.location.Location.{Location}
use Rattle.wp_model.specs.declared.location.Side.{Side}
use Rattle.wp_model.specs.declared.location.Side.TheVariants as side
use Rattle.wp_journal.specs.Splits.{Word, is_arrow, is_space}
use Rattle.wp_journal.proofs.Phrases.{both, false_from, has_no_space}

-- a word of the bytes that names have
abbrev pub is_plain_word : Word → Bool
is_plain_word word = list_all is_name_byte word

-- two tests that are true are true together
pub and_true : (p q : Bool) → p ≡ true → q ≡ true → (p && q) ≡ true
and_true p q e f = ap₂ (λ a b. a && b) e f

space_no_name_byte : is_name_byte 32 ≡ true → ⊥
space_no_name_byte e = let e' : false ≡ true = e in absurd (cc e')

not_space : (b : ℕ) → is_name_byte b ≡ true → not (is_space b) ≡ true
not_space b e = ap not (false_from (is_space b) (λ h. space_no_name_byte (subst (λ n. is_name_byte n ≡ true) ((Decides-eqb b 32).0 h) e)))

-- it has no space
pub plain_no_space : (word : Word) → is_plain_word word ≡ true → has_no_space word ≡ true
plain_no_space [] e = refl
plain_no_space (b ∷ word) e =
    let parts = both (is_name_byte b) (is_plain_word word) e in
    and_true _ _ (not_space b parts.0) (plain_no_space word parts.1)

-- none of such words has
pub plain_no_spaces : (words : List Word) → list_all is_plain_word words ≡ true → list_all has_no_space words ≡ true
plain_no_spaces [] e = refl
plain_no_spaces (word ∷ words) e =
    let parts = both (is_plain_word word) (list_all is_plain_word words) e in
    and_true _ _ (plain_no_space word parts.0) (plain_no_spaces words parts.1)

arrow_not_plain : is_plain_word (codes "->") ≡ true → ⊥
arrow_not_plain e = let e' : false ≡ true = e in absurd (cc e')

not_arrow : (word : Word) → is_plain_word word ≡ true → not (is_arrow word) ≡ true
not_arrow word e = ap not (false_from (is_arrow word) (λ h. arrow_not_plain (subst (λ w. is_plain_word w ≡ true) ((bytes_eq-Decides word (codes "->")).0 h) e)))

-- none of them is the arrow
pub plain_no_arrow : (words : List Word) → list_all is_plain_word words ≡ true → list_all (λ word. not (is_arrow word)) words ≡ true
plain_no_arrow [] e = refl
plain_no_arrow (word ∷ words) e =
    let parts = both (is_plain_word word) (list_all is_plain_word words) e in
    and_true _ _ (not_arrow word parts.0) (plain_no_arrow words parts.1)

-- a name is such a word
pub name_plain : (text : List ℕ) → is_name text ≡ true → is_plain_word text ≡ true
name_plain text e = (both _ _ (both _ _ e).1).1

-- so is each of a list of names
pub names_plain : (names : List (List ℕ)) → list_all is_name names ≡ true → list_all is_plain_word names ≡ true
names_plain [] e = refl
names_plain (name ∷ names) e =
    let parts = both (is_name name) (list_all is_name names) e in
    and_true _ _ (name_plain name parts.0) (names_plain names parts.1)

digit_name_byte : (c : ℕ) → 48 ≤ c → c ≤ 57 → is_name_byte c ≡ true
digit_name_byte c low high = grind (arith, nat_tests)

digits_plain : (ds : List ℕ) → AllDigits 10 ds → is_plain_word ds ≡ true
digits_plain [] d = refl
digits_plain (c ∷ cs) d =
    let range = digit_from_value c d.0 in
    and_true _ _ (digit_name_byte c range.0 range.1) (digits_plain cs d.1)

-- so is a number
pub decimal_plain : (n : ℕ) → n < 2 ^ 64 → is_plain_word (decimal n) ≡ true
decimal_plain n small = digits_plain (decimal n) (decimal_is_IsNumeral n small).0.1

not_dash : (c : ℕ) → 48 ≤ c → c ≤ 57 → not (is_dash c) ≡ true
not_dash c low high = ap not (false_from (is_dash c) (λ h. let e = (Decides-eqb c 45).0 h in omega arith))

digits_no_dash : (ds : List ℕ) → AllDigits 10 ds → list_all (λ b. not (is_dash b)) ds ≡ true
digits_no_dash [] d = refl
digits_no_dash (c ∷ cs) d =
    let range = digit_from_value c d.0 in
    and_true _ _ (not_dash c range.0 range.1) (digits_no_dash cs d.1)

-- which has no dash
pub decimal_no_dash : (n : ℕ) → n < 2 ^ 64 → list_all (λ b. not (is_dash b)) (decimal n) ≡ true
decimal_no_dash n small = digits_no_dash (decimal n) (decimal_is_IsNumeral n small).0.1

all_append : (xs ys : List ℕ) → is_plain_word xs ≡ true → is_plain_word ys ≡ true → is_plain_word (xs ++ ys) ≡ true
all_append xs ys e f = list_all-append is_name_byte xs ys ∙ and_true _ _ e f

side_plain : (s : Side) → is_plain_word (45 ∷ side_text s) ≡ true
side_plain side.L = refl
side_plain side.R = refl

-- the numbers of a plain location are small
pub place_small : (n : ℕ) → nat_le n 99999 ≡ true → n < 2 ^ 32
place_small n e = let numeral : 99999 < 2 ^ 32 = lit< tt in omega (arith, leb-true n 99999 e)

-- a number of 32 bits is one of 64
pub small_is_whole : (n : ℕ) → n < 2 ^ 32 → n < 2 ^ 64
small_is_whole n small = let numeral : 2 ^ 32 < 2 ^ 64 = lit< tt in omega arith

-- a location is such a word
pub location_plain : (l : Location) → is_plain_location l ≡ true → is_plain_word (location_text l) ≡ true
location_plain l e =
    let parts = both (nat_le l.aisle 99999) (nat_le l.slot 99999) e in
    all_append (decimal l.aisle ++ 45 ∷ decimal l.slot) (45 ∷ side_text l.side)
    (all_append (decimal l.aisle) (45 ∷ decimal l.slot) (decimal_plain l.aisle (small_is_whole l.aisle (place_small l.aisle parts.0)))
    (decimal_plain l.slot (small_is_whole l.slot (place_small l.slot parts.1))))
    (side_plain l.side)
