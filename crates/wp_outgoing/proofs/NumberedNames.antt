-- Names that are made of a group and a number.
use Rattle.std.proofs.Common.{ltb, ◌≡◌, ◌∙◌, refl, ℕ, suc, ◌+◌, ◌<◌, ◌≤◌, ◌^◌, true, List, [], ◌∷◌, ◌++◌, length, arith, length-append, le-leb, lt-ltb, lit≤, lit<}
use Rattle.std.specs.Prelude.{◌&&◌, Some, nat_le}
use Rattle.std.specs.Fmt.{decimal}
use Rattle.std.specs.List.{list_all}
use Rattle.std.specs.Str.Parse.{AllDigits}
use Rattle.std.proofs.lemmas.Bool.{and_from, and_parts, cond-true}
use Rattle.std.proofs.lemmas.Bool.Decides.{nat_tests}
use Rattle.std.proofs.lemmas.Fmt.{decimal_is_IsNumeral, length-decimal-le}
use Rattle.std.proofs.lemmas.List.Folds.{list_all-append}
use Rattle.std.proofs.lemmas.Str.Parse.{digit_from_value}
use Rattle.wp_model.specs.Name.{is_name, is_name_byte, name_in}
use Rattle.wp_outgoing.specs.Names.{numbered_name}

digit : (c : ℕ) → 48 ≤ c → c ≤ 57 → is_name_byte c ≡ true
digit c low high = grind (arith, nat_tests)

-- names may have digits
digits_plain : (ds : List ℕ) → AllDigits 10 ds → list_all is_name_byte ds ≡ true
digits_plain [] d = refl
digits_plain (c ∷ cs) d =
    let range = digit_from_value c d.0 in
    and_from _ _ (digit c range.0 range.1) (digits_plain cs d.1)

-- a group of at most 32 bytes, a dot and five digits at most are a name
named_text : (group digits : List ℕ) → is_name group ≡ true → length group ≤ 32 → length digits ≤ 5 → list_all is_name_byte digits ≡ true
    → is_name (group ++ (46 ∷ digits)) ≡ true
named_text group digits named short few plain =
    let text : List ℕ = group ++ (46 ∷ digits) in
    let parts : (ltb 0 (length group) ≡ true) × ((nat_le (length group) 40 && list_all is_name_byte group) ≡ true) =
    and_parts (ltb 0 (length group)) (nat_le (length group) 40 && list_all is_name_byte group) named in
    let of_group : list_all is_name_byte group ≡ true = (and_parts (nat_le (length group) 40) (list_all is_name_byte group) parts.1).1 in
    let long : length text ≡ length group + suc (length digits) = length-append group (46 ∷ digits) in
    let some : 0 < length text = omega arith in
    let most : length text ≤ 40 = omega arith in
    and_from (ltb 0 (length text)) (nat_le (length text) 40 && list_all is_name_byte text) (lt-ltb 0 (length text) some)
    (and_from (nat_le (length text) 40) (list_all is_name_byte text) (le-leb (length text) 40 most)
    (list_all-append is_name_byte group (46 ∷ digits) ∙ and_from (list_all is_name_byte group) (list_all is_name_byte digits) of_group plain))

pub is_numbered : (group : List ℕ) (n : ℕ) → is_name group ≡ true → length group ≤ 32 → n < 100000 → is_name (numbered_name group n) ≡ true
is_numbered group n named short few =
    let numeral : 100000 ≤ 10 ^ 5 = lit≤ tt in
    let wide : 100000 < 2 ^ 64 = lit< tt in
    let within : n < 10 ^ 5 = omega arith in
    let small : n < 2 ^ 64 = omega arith in
    named_text group (decimal n) named short (length-decimal-le 5 n (lit< tt) within small) (digits_plain (decimal n) (decimal_is_IsNumeral n small).0.1)

-- it is that name
pub numbered_in : (group : List ℕ) (n : ℕ) → is_name group ≡ true → length group ≤ 32 → n < 100000
    → name_in (numbered_name group n) ≡ Some (numbered_name group n)
numbered_in group n named short few =
    cond-true (is_name (numbered_name group n)) (Some (numbered_name group n)) _ (is_numbered group n named short few)
