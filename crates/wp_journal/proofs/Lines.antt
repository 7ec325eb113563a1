-- The lines of a text, one after the other.
use Rattle.std.proofs.Common.{◌≡◌, ◌∙◌, refl, sym, ap, ℕ, suc, ◌+◌, ◌<◌, Bool, true, false, List, [], ◌∷◌, length, take, drop, arith}
use Rattle.std.specs.Prelude.{◌==◌}
use Rattle.std.specs.List.{onto_first, position_or_len}
use Rattle.std.proofs.lemmas.Bool.Decides.{nat_tests}
use Rattle.std.proofs.lemmas.List.{length-drop}
use Rattle.wp_journal.specs.Auditing.{after_line, first_line}
use Rattle.wp_journal.specs.Journals.{is_feed, lines_of}

shift : (n : ℕ) → (1 + n) + 1 ≡ suc (n + 1)
shift n = omega arith

-- the first of the lines, and those after it
abbrev pub Parts : List ℕ → Type 0
Parts text = lines_of text ≡ first_line text ∷ lines_of (after_line text)

first_with : (b : ℕ) (text : List ℕ) (feed : Bool) → is_feed b ≡ feed → (feed ≡ false → lines_of text ≡ first_line text ∷ lines_of (after_line text))
    → Parts (b ∷ text)
first_with b text true is so = rw is refl
first_with b text false is so =
    let place : position_or_len is_feed (b ∷ text) + 1 ≡ suc (position_or_len is_feed text + 1) = rw is (shift (position_or_len is_feed text)) in
    let left : lines_of (b ∷ text) ≡ onto_first b (lines_of text) = rw is refl in
    let first : first_line (b ∷ text) ≡ b ∷ first_line text = ap (λ n. take n (b ∷ text)) place in
    let after : after_line (b ∷ text) ≡ after_line text = ap (λ n. drop n (b ∷ text)) place in
    rw (left, first, after) (ap (onto_first b) (so refl))

last_with : (b : ℕ) (feed : Bool) → is_feed b ≡ feed → Parts (b ∷ [])
last_with b true is = rw is refl
last_with b false is = rw is refl

-- a text that isn't empty has a first line
pub first_of_lines : (text : List ℕ) → 0 < length text → Parts text
first_of_lines [] some = absurd (omega arith)
first_of_lines (b ∷ []) some = last_with b (is_feed b) refl
first_of_lines (b ∷ c ∷ text) some = first_with b (c ∷ text) (is_feed b) refl (λ _. first_of_lines (c ∷ text) (omega arith))

-- the text after it is shorter
pub after_line_shorter : (text : List ℕ) → 0 < length text → length (after_line text) < length text
after_line_shorter text some = omega (arith, length-drop (position_or_len is_feed text + 1) text)

-- a text that isn't empty
pub some_bytes : (n : ℕ) (b : Bool) → b ≡ (n == 0) → b ≡ false → 0 < n
some_bytes n b is full = grind (arith, nat_tests)

-- a text that is empty
pub no_bytes : (text : List ℕ) (b : Bool) → b ≡ (length text == 0) → b ≡ true → text ≡ []
no_bytes [] b is none = refl
no_bytes (c ∷ text) b is none = absurd (clash (sym none ∙ is))
  where
    clash : true ≡ (length (c ∷ text) == 0) → ⊥
    clash e = grind (arith, nat_tests)
