-- Made words are names.
use Rattle.std.proofs.Common.{◌≡◌, ◌∙◌, refl, ap₂, ℕ, ◌+◌, ◌<◌, ◌≤◌, ◌^◌, Bool, true, List, [], ◌∷◌, ◌++◌, length, arith, length-append, le-leb, lt-ltb, lit≤}
use Rattle.std.proofs.Common.{lit<}
use Rattle.std.specs.Prelude.{◌&&◌}
use Rattle.std.specs.Fmt.{decimal}
use Rattle.std.specs.List.{list_all}
use Rattle.std.specs.Str.Parse.{AllDigits}
use Rattle.std.proofs.lemmas.Bool.Decides.{nat_tests}
use Rattle.std.proofs.lemmas.Fmt.{decimal_is_IsNumeral, decimal_nonempty, length-decimal-le}
use Rattle.std.proofs.lemmas.List.Folds.{list_all-append}
use Rattle.std.proofs.lemmas.Str.Parse.{digit_from_value}
use Rattle.wp_model.specs.Journal.{location_text}
use Rattle.wp_model.specs.Name.{is_name, is_name_byte}
use Rattle.wp_model.specs.declared.location.Side.TheVariants as side
use Rattle.wp_make.specs.Records.{article_name, order_name, wave_name}

-- two tests that are true are true together
pub and_true : (p q : Bool) → p ≡ true → q ≡ true → (p && q) ≡ true
and_true p q e f = ap₂ (λ a b. a && b) e f

-- a word of so many bytes at most, all of which names may have
pub record IsWord (most : ℕ) (text : List ℕ) : Type 0 where
  pub some : 0 < length text
  pub short : length text ≤ most
  pub plain : list_all is_name_byte text ≡ true

digits_plain : (ds : List ℕ) → AllDigits 10 ds → list_all is_name_byte ds ≡ true
digits_plain [] d = refl
digits_plain (c ∷ cs) d =
    let range = digit_from_value c d.0 in
    and_true _ _ (digit c range.0 range.1) (digits_plain cs d.1)
  where
    digit : (c : ℕ) → 48 ≤ c → c ≤ 57 → is_name_byte c ≡ true
    digit c low high = grind (arith, nat_tests)

-- a number of few digits is one
pub number_word : (digits n : ℕ) → 0 < digits → n < 10 ^ digits → n < 2 ^ 64 → IsWord digits (decimal n)
number_word digits n some few small = record {
  some = decimal_nonempty n small;
  short = length-decimal-le digits n some few small;
  plain = digits_plain (decimal n) (decimal_is_IsNumeral n small).0.1;
}

-- and two words in a row are one
pub word_append : (j k : ℕ) (a b : List ℕ) → IsWord j a → IsWord k b → IsWord (j + k) (a ++ b)
word_append j k a b first second = record {
  some = omega (arith, length-append a b, first.some);
  short = omega (arith, length-append a b, first.short, second.short);
  plain = list_all-append is_name_byte a b ∙ and_true _ _ first.plain second.plain;
}

-- a short word is a name
pub word_name : (most : ℕ) (text : List ℕ) → most ≤ 40 → IsWord most text → is_name text ≡ true
word_name most text short word =
    and_true _ _ (lt-ltb 0 (length text) word.some) (and_true _ _ (le-leb (length text) 40 (omega (arith, word.short))) word.plain)

-- a number of at most five digits
pub record IsSmall (n : ℕ) : Type 0 where
  pub below : n < 100000

small_word : (n : ℕ) → IsSmall n → IsWord 5 (decimal n)
small_word n small =
    let numeral : 100000 ≤ 10 ^ 5 = lit≤ tt in
    let wide : 100000 < 2 ^ 64 = lit< tt in
    number_word 5 n (lit< tt) (omega (arith, small.below)) (omega (arith, small.below))

byte_word : (b : ℕ) → is_name_byte b ≡ true → IsWord 1 (b ∷ [])
byte_word b plain = record { some = lit< tt; short = lit≤ tt; plain = and_true _ _ plain refl }

-- numbers, orders, waves, articles and locations are names
pub number_named : (n : ℕ) → IsSmall n → is_name (decimal n) ≡ true
number_named n small = word_name 5 (decimal n) (lit≤ tt) (small_word n small)

numbered_word : (b n : ℕ) → is_name_byte b ≡ true → IsSmall n → IsWord 6 (b ∷ decimal n)
numbered_word b n plain small = word_append 1 5 (b ∷ []) (decimal n) (byte_word b plain) (small_word n small)

pub order_named : (n : ℕ) → IsSmall n → is_name (order_name n) ≡ true
order_named n small = word_name 6 (order_name n) (lit≤ tt) (numbered_word 79 n refl small)

pub wave_named : (n : ℕ) → IsSmall n → is_name (wave_name n) ≡ true
wave_named n small = word_name 6 (wave_name n) (lit≤ tt) (numbered_word 87 n refl small)

pub article_named : (aisle slot : ℕ) → IsSmall aisle → IsSmall slot → is_name (article_name aisle slot) ≡ true
article_named aisle slot small small' =
    word_name 12 (article_name aisle slot) (lit≤ tt)
    (word_append 7 5 ((65 ∷ decimal aisle) ++ (45 ∷ [])) (decimal slot)
    (word_append 6 1 (65 ∷ decimal aisle) (45 ∷ []) (numbered_word 65 aisle refl small) (byte_word 45 refl)) (small_word slot small'))

pub location_named : (aisle slot : ℕ) → IsSmall aisle → IsSmall slot → is_name (location_text (record { aisle = aisle; slot = slot; side = side.L })) ≡ true
location_named aisle slot small small' =
    word_name 13 (location_text (record { aisle = aisle; slot = slot; side = side.L })) (lit≤ tt)
    (word_append 11 2 (decimal aisle ++ 45 ∷ decimal slot) (45 ∷ 76 ∷ [])
    (word_append 5 6 (decimal aisle) (45 ∷ decimal slot) (small_word aisle small) (numbered_word 45 slot refl small'))
    (word_append 1 1 (45 ∷ []) (76 ∷ []) (byte_word 45 refl) (byte_word 76 refl)))
