-- The numbers that were matched for `waves` lie in their ranges.
use Rattle.std.proofs.Common.{◌≡◌, ◌∙◌, ◌<◌, ◌≤◌, ℕ, Bool, true, false, cond, refl, sym, ap, subst, arith}
use Rattle.std.proofs.Common.{[], ◌∷◌, Option, Some, None, codes, drop, option_map, unwrap_or, pos}
use Rattle.std.specs.Prelude.{◌==◌}
use Rattle.std.specs.Char.{digit_value}
use Rattle.std.specs.Option.{ForSome}
use Rattle.std.specs.Str.Parse.{AllDigits, digits_value, starts_with_minus, without_leading_plus}
use Rattle.std.proofs.lemmas.Bool.{eqb-true}
use Rattle.std.proofs.lemmas.Int.{ints}
use Rattle.clap.specs.Lexer.{without_minus}
use Rattle.clap.specs.Matches.{found_of}
use Rattle.clap.specs.Simple.{App}
use Rattle.clap.specs.Values.{IsSignedIn}
use Rattle.clap.specs.Walk.{Text, rows_of}
use Rattle.clap.specs.declared.builder.value_parser.ValueParser.TheVariants as vp
use Rattle.clap.specs.declared.parser.matches.ArgMatches.{ArgMatches}
use Rattle.wp_model.specs.Limits.{greatest_desk, most_cart_units, most_submissions, most_wave_orders}
use Rattle.wp_waves_words.specs.Limits.{most_effort}
use Rattle.wp_waves_words.specs.Options.{waves_command}
use Rattle.wp_waves_words.specs.Words.{AreWavesValues, HasWavesRanges, WavesNames}
use Rattle.wp_words.specs.Limits.{most_capacity}
use Rattle.wp_words.specs.Options.{IsMatchOf}
use Rattle.wp_words.specs.Words.{number_read, number_said}
use Rattle.wp_words.proofs.Passing.{HasOption, passed}

-- a text with no first hyphen stays as it is
no_minus : (text : Text) → starts_with_minus text ≡ false → without_minus text ≡ text
no_minus [] is = refl
no_minus (x ∷ xs) is = go (x == 45) is
  where
    go : (b : Bool) → b ≡ false → unwrap_or (cond b (Some xs) None) (x ∷ xs) ≡ x ∷ xs
    go true e = cc
    go false e = refl

-- and one with a first hyphen loses it
minus_lost : (text : Text) → starts_with_minus text ≡ true → without_minus text ≡ drop 1 text
minus_lost [] is = cc
minus_lost (x ∷ xs) is = go (x == 45) is
  where
    go : (b : Bool) → b ≡ true → unwrap_or (cond b (Some xs) None) (x ∷ xs) ≡ xs
    go true e = refl
    go false e = cc

-- no plus stands before digits
no_plus : (text : Text) → AllDigits 10 text → without_leading_plus text ≡ text
no_plus [] digits = refl
no_plus (x ∷ xs) digits = go (x == 43) refl
  where
    go : (b : Bool) → (x == 43) ≡ b → drop (cond b 1 0) (x ∷ xs) ≡ x ∷ xs
    go true is =
        let low : 36 < 10 = subst (λ (c : ℕ). digit_value c < 10) (eqb-true x 43 is) digits.0 in
        absurd (omega arith)
    go false is = refl

-- a text that passed a range of numbers that aren't below zero says a number of the range
signed_said : (least most : ℕ) (written : Text) → IsSignedIn (pos least) (pos most) written
    → (least ≤ number_said (without_minus written)) × (number_said (without_minus written) ≤ most)
signed_said least most written passes = go (starts_with_minus written) refl
  where
    go : (b : Bool) → starts_with_minus written ≡ b → (least ≤ number_said (without_minus written)) × (number_said (without_minus written) ≤ most)
    go true minus =
        let digits = rw minus at passes.0.1 in
        let low = rw minus at passes.2 in
        let said : number_said (without_minus written) ≡ digits_value 10 (drop 1 written) =
        ap number_said (minus_lost written minus) ∙ ap (digits_value 10) (no_plus (drop 1 written) digits) in
        rw said (omega (arith, ints), omega (arith, ints))
    go false minus =
        let low = rw minus at passes.2 in
        let high = rw minus at passes.3 in
        rw (no_minus written minus) (omega (arith, ints), omega (arith, ints))

-- the text of a number that was read
text_read : (text : Option Text) (number : ℕ) → option_map number_said text ≡ Some number → (t : Text) × (text ≡ Some t) × (number_said t ≡ number)
text_read None number is = cc
text_read (Some t) number is = (t, refl, ap (λ (o : Option ℕ). unwrap_or o number) is)

-- a number that was read of an option lies in the range that the option's parser takes
number_within : (app : App) (m : ArgMatches) (name : Text) (least most number : ℕ) → IsMatchOf app m → HasOption name (vp.Signed (pos least) (pos most)) app
    → number_read name (rows_of (found_of m)) ≡ Some number → (least ≤ number) × (number ≤ most)
number_within app m name least most number match own is =
    let text = text_read _ number is in
    let by = passed app m name text.0 (vp.Signed (pos least) (pos most)) match own text.1 in
    let said : number_said (without_minus by.0) ≡ number = ap number_said (sym by.1) ∙ text.2 in
    subst (λ n. (least ≤ n) × (n ≤ most)) said (signed_said least most by.0 by.2)

-- and where such an option may be absent
number_if_within : (app : App) (m : ArgMatches) (name : Text) (least most : ℕ) (number : Option ℕ) → IsMatchOf app m
    → HasOption name (vp.Signed (pos least) (pos most)) app → number_read name (rows_of (found_of m)) ≡ number → ForSome number (λ n. (least ≤ n) × (n ≤ most))
number_if_within app m name least most number match own is = λ n some. number_within app m name least most n match own (is ∙ some)

-- the numbers that were matched for `waves` lie in their ranges
pub in_waves_ranges : (m : ArgMatches) (names : WavesNames) → IsMatchOf waves_command m → AreWavesValues (rows_of (found_of m)) names
    → HasWavesRanges names
unfolding waves_command
in_waves_ranges m names match values =
    let wave = number_within waves_command m (codes "wave") 1 most_wave_orders names.wave match refl values.wave in
    let capacity = number_within waves_command m (codes "capacity") 1 most_capacity names.capacity match refl values.capacity in
    let most = number_within waves_command m (codes "most") 1 most_submissions names.most match refl values.most in
    let desk = number_within waves_command m (codes "desk") 1 greatest_desk names.desk match refl values.desk in
    record {
      some_wave = wave.0;
      wave = wave.1;
      some_capacity = capacity.0;
      capacity = capacity.1;
      cart = number_if_within waves_command m (codes "units") 1 most_cart_units names.units match refl values.units;
      some_most = most.0;
      most = most.1;
      some_desk = desk.0;
      desk = desk.1;
      effort = (number_within waves_command m (codes "effort") 0 most_effort names.effort match refl values.effort).1;
    }
