-- What a made word was written for is read from it again.
use Rattle.std.proofs.Common.{◌≡◌, ◌∙◌, refl, sym, ap, ap₂, ℕ, ◌+◌, ◌-◌, ◌*◌, ◌<◌, ◌≤◌, ◌^◌, true, List, [], ◌∷◌, ◌++◌, length, take, drop, cond, append_assoc}
use Rattle.std.proofs.Common.{arith}
use Rattle.std.proofs.Common.{le-leb, lt-ltb, lit≤, lit<}
use Rattle.std.specs.Prelude.{Some, None, if◌then◌else◌, not}
use Rattle.std.specs.Char.{digit_value, is_ascii_digit}
use Rattle.std.specs.Fmt.{decimal}
use Rattle.std.specs.List.{after_first, before_first, list_all, position_or_len}
use Rattle.std.specs.Str.Parse.{AllDigits, digits_value_after}
use Rattle.std.proofs.Math.Seq.{drop-append-add, take-append_seam}
use Rattle.std.proofs.lemmas.Bool.Decides.{nat_tests}
use Rattle.std.proofs.lemmas.Fmt.{decimal_injective, decimal_is_IsNumeral, decimal_nonempty, length-decimal-le}
use Rattle.std.proofs.lemmas.Str.{digit_value_digit}
use Rattle.std.proofs.lemmas.Str.Parse.{digit_from_value}
use Rattle.wp_model.specs.Journal.{location_text}
use Rattle.wp_model.specs.Location.{is_dash, location_from, location_of}
use Rattle.wp_model.specs.Number.{number_after, number_of}
use Rattle.wp_model.specs.declared.location.Location.{Location}
use Rattle.wp_model.specs.declared.location.Side.TheVariants as side
use Rattle.wp_make.specs.Records.{article_name, order_name}
use Rattle.wp_make.proofs.Words.{IsSmall, and_true}

digits_ascii : (ds : List ℕ) → AllDigits 10 ds → list_all is_ascii_digit ds ≡ true
digits_ascii [] d = refl
digits_ascii (c ∷ cs) d =
    let range = digit_from_value c d.0 in and_true _ _ (and_true _ _ (le-leb 48 c range.0) (le-leb c 57 range.1)) (digits_ascii cs d.1)

number_is : (n : ℕ) (ds : List ℕ) → AllDigits 10 ds → number_after n ds ≡ digits_value_after 10 n ds
number_is n [] d = refl
number_is n (c ∷ cs) d =
    let same : c - 48 ≡ digit_value c = omega (arith, digit_value_digit c (digit_from_value c d.0)) in
    ap (λ x. number_after (n * 10 + x) cs) same ∙ number_is (n * 10 + digit_value c) cs d.1

-- a number of few digits
pub number_back : (most digits n : ℕ) → 0 < digits → digits ≤ most → n < 10 ^ digits → n < 2 ^ 64 → number_of most (decimal n) ≡ Some n
number_back most digits n some fits few small =
    let numeral = decimal_is_IsNumeral n small in
    let first = lt-ltb 0 (length (decimal n)) (decimal_nonempty n small) in
    let last = le-leb (length (decimal n)) most (omega (arith, length-decimal-le digits n some few small)) in
    ap (λ b. if b then Some (number_after 0 (decimal n)) else None) (and_true _ _ first (and_true _ _ last (digits_ascii (decimal n) numeral.0.1)))
    ∙ ap Some (number_is 0 (decimal n) numeral.0.1 ∙ numeral.1)

wide : (n : ℕ) → IsSmall n → n < 2 ^ 64
wide n small = let numeral : 100000 < 2 ^ 64 = lit< tt in omega (arith, small.below)

-- a small one
pub small_back : (most n : ℕ) → 5 ≤ most → IsSmall n → number_of most (decimal n) ≡ Some n
small_back most n fits small =
    let numeral : 100000 ≤ 10 ^ 5 = lit≤ tt in
    number_back most 5 n (lit< tt) fits (omega (arith, small.below)) (wide n small)

-- the dash after digits
dash_at : (ds rest : List ℕ) → AllDigits 10 ds → position_or_len is_dash (ds ++ 45 ∷ rest) ≡ length ds
dash_at [] rest d = refl
dash_at (c ∷ cs) rest d =
    let range = digit_from_value c d.0 in
    ap (λ b. cond b (1 + position_or_len is_dash (cs ++ 45 ∷ rest)) 0) (no_dash c range.0 range.1) ∙ omega (arith, dash_at cs rest d.1)
  where
    no_dash : (c : ℕ) → 48 ≤ c → c ≤ 57 → not (is_dash c) ≡ true
    no_dash c low high = grind (arith, nat_tests)

before_dash : (ds rest : List ℕ) → AllDigits 10 ds → before_first is_dash (ds ++ 45 ∷ rest) ≡ ds
before_dash ds rest d = ap (λ n. take n (ds ++ 45 ∷ rest)) (dash_at ds rest d) ∙ take-append_seam ds (45 ∷ rest)

after_dash : (ds rest : List ℕ) → AllDigits 10 ds → after_first is_dash (ds ++ 45 ∷ rest) ≡ rest
after_dash ds rest d = ap (λ n. drop (n + 1) (ds ++ 45 ∷ rest)) (dash_at ds rest d) ∙ drop-append-add ds (45 ∷ rest) 1

parts_found : (a s rest : List ℕ) → AllDigits 10 a → AllDigits 10 s → location_of (a ++ 45 ∷ s ++ 45 ∷ rest) ≡ location_from a s rest
parts_found a s rest d e =
    ap location_of (append_assoc a (45 ∷ s) (45 ∷ rest))
    ∙ ap₂ (λ b r. location_from b (before_first is_dash r) (after_first is_dash r)) (before_dash a (s ++ 45 ∷ rest) d) (after_dash a (s ++ 45 ∷ rest) d)
    ∙ ap₂ (λ b r. location_from a b r) (before_dash s rest e) (after_dash s rest e)

-- the location of a slot
abbrev pub slot_location : ℕ → ℕ → Location
slot_location aisle slot = record { aisle = aisle; slot = slot; side = side.L }

pub location_back : (aisle slot : ℕ) → IsSmall aisle → IsSmall slot → location_of (location_text (slot_location aisle slot)) ≡ Some (slot_location aisle slot)
location_back aisle slot small small' =
    parts_found (decimal aisle) (decimal slot) (76 ∷ []) (decimal_is_IsNumeral aisle (wide aisle small)).0.1
    (decimal_is_IsNumeral slot (wide slot small')).0.1
    ∙ rw (small_back 5 aisle (lit≤ tt) small, small_back 5 slot (lit≤ tt) small') refl

-- the article of a slot tells the slot
article_place : (aisle slot : ℕ) → IsSmall aisle → IsSmall slot
    → location_of (drop 1 (article_name aisle slot) ++ 45 ∷ 76 ∷ []) ≡ Some (slot_location aisle slot)
article_place aisle slot small small' =
    ap (λ (t : List ℕ). location_of (t ++ 45 ∷ 76 ∷ [])) (append_assoc (decimal aisle) (45 ∷ []) (decimal slot)) ∙ location_back aisle slot small small'

-- so two articles are of one slot
pub one_article : (aisle slot other next : ℕ) → IsSmall aisle → IsSmall slot → IsSmall other → IsSmall next
    → article_name aisle slot ≡ article_name other next → (aisle ≡ other) × (slot ≡ next)
one_article aisle slot other next small small' small'' small''' same =
    let e : Some (slot_location aisle slot) ≡ Some (slot_location other next) =
    sym (article_place aisle slot small small') ∙ (ap (λ (t : List ℕ). location_of (drop 1 t ++ 45 ∷ 76 ∷ [])) same
    ∙ article_place other next small'' small''') in
    let is : slot_location aisle slot ≡ slot_location other next = cc e in
    (ap (λ (l : Location). l.aisle) is, ap (λ (l : Location). l.slot) is)

-- and two orders of one name have one number
pub one_order : (n m : ℕ) → IsSmall n → IsSmall m → order_name n ≡ order_name m → n ≡ m
one_order n m small small' same = decimal_injective n m (wide n small) (wide m small') (ap (drop 1) same)
