-- A text of words is cut into them again.
use Rattle.std.proofs.Common.{◌≡◌, ◌∙◌, refl, ap, ℕ, suc, ◌+◌, Bool, true, false, List, [], ◌∷◌, ◌++◌, length, take, drop, cond, arith}
use Rattle.std.specs.Prelude.{◌&&◌, not}
use Rattle.std.specs.List.{All, after_first, before_first, flat_map, list_all, position_or_len}
use Rattle.std.proofs.Math.Seq.{take-append_seam}
use Rattle.std.proofs.lemmas.List.{append-nil}
use Rattle.std.proofs.lemmas.List.Splits.{slice_split_at, slice_split_none}
use Rattle.std.proofs.lemmas.List.Sums.{AllPass-from_list_all}
use Rattle.wp_model.specs.Journal.{after_space}
use Rattle.wp_journal.specs.Splits.{Word, is_space, words_of}

-- two tests that are true together are true each
pub both : (p q : Bool) → (p && q) ≡ true → (p ≡ true) × (q ≡ true)
both true q e = (refl, e)
both false q e = absurd (cc e)

-- a test that can't be true is false
pub false_from : (b : Bool) → ((b ≡ true) → ⊥) → b ≡ false
false_from true h = absurd (h refl)
false_from false h = refl

not_false : (b : Bool) → not b ≡ true → b ≡ false
not_false true e = absurd (cc e)
not_false false e = refl

-- a word has no space
abbrev pub has_no_space : Word → Bool
has_no_space word = list_all (λ b. not (is_space b)) word

no_space : (word : Word) → has_no_space word ≡ true → All (λ b. is_space b ≡ false) word
no_space word e = λ k d l. not_false _ (AllPass-from_list_all (λ b. not (is_space b)) word e k d l)

-- words with a space before each but the first are cut into them
pub split_phrase : (first : Word) (rest : List Word) → has_no_space first ≡ true → list_all has_no_space rest ≡ true
    → words_of (first ++ flat_map after_space rest) ≡ first ∷ rest
split_phrase first [] f r = ap words_of (append-nil first) ∙ slice_split_none is_space first (no_space first f)
split_phrase first (word ∷ rest) f r =
    let parts = both (has_no_space word) (list_all has_no_space rest) r in
    slice_split_at is_space first 32 (word ++ flat_map after_space rest) (no_space first f) refl
    ∙ ap (λ words. first ∷ words) (split_phrase word rest parts.0 parts.1)

-- the first that passes, after those that don't
pub place_at : {X : Type 0} (p : X → Bool) (xs : List X) (y : X) (ys : List X) → list_all (λ x. not (p x)) xs ≡ true → p y ≡ true
    → position_or_len p (xs ++ y ∷ ys) ≡ length xs
place_at p [] y ys e hit = ap (λ b. cond (not b) (1 + position_or_len p ys) 0) hit
place_at p (x ∷ xs) y ys e hit =
    let parts = both (not (p x)) (list_all (λ x. not (p x)) xs) e in
    ap (λ b. cond b (1 + position_or_len p (xs ++ y ∷ ys)) 0) parts.0 ∙ omega (arith, place_at p xs y ys parts.1 hit)

-- what stands before it
pub before_at : {X : Type 0} (p : X → Bool) (xs : List X) (y : X) (ys : List X) → list_all (λ x. not (p x)) xs ≡ true → p y ≡ true
    → before_first p (xs ++ y ∷ ys) ≡ xs
before_at p xs y ys e hit = ap (λ n. take n (xs ++ y ∷ ys)) (place_at p xs y ys e hit) ∙ take-append_seam xs (y ∷ ys)

shift : (n : ℕ) → suc n + 1 ≡ suc (n + 1)
shift n = omega arith

drop_past : {X : Type 0} (xs : List X) (y : X) (ys : List X) → drop (length xs + 1) (xs ++ y ∷ ys) ≡ ys
drop_past [] y ys = refl
drop_past (x ∷ xs) y ys = ap (λ n. drop n (x ∷ xs ++ y ∷ ys)) (shift (length xs)) ∙ drop_past xs y ys

-- what stands after it
pub after_at : {X : Type 0} (p : X → Bool) (xs : List X) (y : X) (ys : List X) → list_all (λ x. not (p x)) xs ≡ true → p y ≡ true
    → after_first p (xs ++ y ∷ ys) ≡ ys
after_at p xs y ys e hit = ap (λ n. drop (n + 1) (xs ++ y ∷ ys)) (place_at p xs y ys e hit) ∙ drop_past xs y ys
