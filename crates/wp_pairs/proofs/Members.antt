-- The places of the ones of a word: which they are, how many, and in which order.
use Rattle.std.proofs.Common.{◌≡◌, ℕ, zero, suc, ◌+◌, ◌/◌, ◌%◌, ◌^◌, ◌<◌, Bool, true, false, List, [], ◌∷◌, length, get_or, arith, refl, ap, sym, ◌∙◌}
use Rattle.std.proofs.Common.{subst, inl, inr, ◌⊎◌, ⊎_elim, Contains, eqb, eqb-true, eq-eqb, cond}
use Rattle.std.proofs.Math.Nat.{div-add-mod, mod-lt, two-pow-succ}
use Rattle.std.specs.Int.{bit_at}
use Rattle.std.specs.Int.Count.{ones, ones_step, count_trailing_zeros, under}
use Rattle.std.specs.List.Sorted.{IsStrictlyIncreasing}
use Rattle.std.specs.Prelude.{Some, slice_get}
use Rattle.std.proofs.lemmas.Nat.Bits.{bit_at_lowest, bit_at-suc}
use Rattle.std.proofs.lemmas.List.{get_or_default}
use Rattle.wp_pairs.specs.Batches.{IsBatch, members, members_from}

-- no place has a one in the word 0
pub members-zero : members 0 ≡ []
unfolding members members_from
members-zero = refl

-- the first of a list is in it
pub contains_first : (x : ℕ) (xs : List ℕ) → Contains (x ∷ xs) x
contains_first x xs = (0, omega arith, refl)

-- what is in a list is in it with a further first
pub contains_later : (y x : ℕ) (xs : List ℕ) → Contains xs x → Contains (y ∷ xs) x
contains_later y x xs h = (suc h.0, omega (arith, h.1), h.2)

-- what is in a list is its first or one of the others
pub contains_cases : (y x : ℕ) (xs : List ℕ) → Contains (y ∷ xs) x → (y ≡ x) ⊎ Contains xs x
contains_cases y x xs (zero, within, is) = inl is
contains_cases y x xs (suc k, within, is) = inr (k, omega arith, is)

-- nothing is in the empty list
pub contains_none : (x : ℕ) → Contains [] x → ⊥
contains_none x h = omega (arith, h.1)

-- one more place in front, where the lowest digit is a one
abbrev front_if : Bool → ℕ → List ℕ → List ℕ
front_if b place places = cond b (place ∷ places) places

-- what is in such a list is the place in front, where it stands there, or one of the others
front_cases : (b : Bool) (place p : ℕ) (places : List ℕ) → Contains (front_if b place places) p → ((b ≡ true) × (place ≡ p)) ⊎ Contains places p
front_cases true place p places h = ⊎_elim (λ e. inl (refl, e)) (λ later. inr later) (contains_cases place p places h)
front_cases false place p places h = inr h

front_later : (b : Bool) (place p : ℕ) (places : List ℕ) → Contains places p → Contains (front_if b place places) p
front_later true place p places h = contains_later place p places h
front_later false place p places h = h

front_first : (b : Bool) (place : ℕ) (places : List ℕ) → b ≡ true → Contains (front_if b place places) place
front_first true place places e = contains_first place places
front_first false place places e = absurd (cc e)

-- a digit above the lowest
digit_above : (n d : ℕ) → bit_at n (d + 1) ≡ bit_at (n / 2) d
digit_above n d = let e : d + 1 ≡ suc d = omega arith in ap (bit_at n) e ∙ bit_at-suc n d

-- what a listed place is: so many digits above the first place, and a one
record IsOne (k place word p : ℕ) : Type 0 where
  digit : ℕ
  at : p ≡ place + digit
  within : digit < k
  one : bit_at word digit ≡ 1

ones_listed : (k place word p : ℕ) → Contains (members_from k place word) p → IsOne k place word p
unfolding members_from
ones_listed zero place word p h = absurd (contains_none p h)
ones_listed (suc k) place word p h =
    ⊎_elim
    (λ (first : (eqb (word % 2) 1 ≡ true) × (place ≡ p)).
    record { digit = 0; at = omega (arith, first.1); within = omega arith; one = bit_at_lowest word ∙ eqb-true _ _ first.0 })
    (λ later. let o = ones_listed k (place + 1) (word / 2) p later in
    record { digit = o.digit + 1; at = omega (arith, o.at); within = omega (arith, o.within); one = digit_above word o.digit ∙ o.one })
    (front_cases (eqb (word % 2) 1) place p (members_from k (place + 1) (word / 2)) h)

listed_ones : (k place word digit : ℕ) → digit < k → bit_at word digit ≡ 1 → Contains (members_from k place word) (place + digit)
unfolding members_from
listed_ones zero place word digit within one = absurd (omega arith)
listed_ones (suc k) place word zero within one =
    let here : place + 0 ≡ place = omega arith in
    rw here (front_first (eqb (word % 2) 1) place (members_from k (place + 1) (word / 2)) (eq-eqb _ _ (sym (bit_at_lowest word) ∙ one)))
listed_ones (suc k) place word (suc digit) within one =
    let here : place + suc digit ≡ place + 1 + digit = omega arith in
    rw here (front_later (eqb (word % 2) 1) place (place + 1 + digit) (members_from k (place + 1) (word / 2))
    (listed_ones k (place + 1) (word / 2) digit (omega arith) (sym (bit_at-suc word digit) ∙ one)))

-- a place of the batch of a word has a one
pub one_at_member : (word p : ℕ) → Contains (members word) p → (p < 64) × (bit_at word p ≡ 1)
unfolding members
one_at_member word p h =
    let o = ones_listed 64 0 word p h in
    let same : o.digit ≡ p = omega (arith, o.at) in
    (omega (arith, o.within), subst (λ (d : ℕ). bit_at word d ≡ 1) same o.one)

-- a one stands at a place of the batch
pub member_at_one : (word p : ℕ) → p < 64 → bit_at word p ≡ 1 → Contains (members word) p
unfolding members
member_at_one word p within one =
    let same : 0 + p ≡ p = omega arith in subst (λ (q : ℕ). Contains (members_from 64 0 word) q) same (listed_ones 64 0 word p within one)

-- a list whose first is below the others, which ascend, ascends
pub ascending_cons : (x : ℕ) (xs : List ℕ) → ((y : ℕ) → Contains xs y → x < y) → IsStrictlyIncreasing xs → IsStrictlyIncreasing (x ∷ xs)
ascending_cons x xs below ascending zero within =
    let some : 0 < length xs = omega arith in below (get_or xs 0 0) (0, some, get_or_default xs 0 (get_or xs 0 0) 0 some)
ascending_cons x xs below ascending (suc k) within = let e : suc k + 1 ≡ suc (k + 1) = omega arith in rw e (ascending k (omega arith))

front_ascending : (b : Bool) (x : ℕ) (xs : List ℕ) → ((y : ℕ) → Contains xs y → x < y) → IsStrictlyIncreasing xs → IsStrictlyIncreasing (front_if b x xs)
front_ascending true x xs below ascending = ascending_cons x xs below ascending
front_ascending false x xs below ascending = ascending

members_ascend : (k place word : ℕ) → IsStrictlyIncreasing (members_from k place word)
unfolding members_from
members_ascend zero place word = λ k within. absurd (omega arith)
members_ascend (suc k) place word =
    front_ascending (eqb (word % 2) 1) place (members_from k (place + 1) (word / 2))
    (λ y h. let o = ones_listed k (place + 1) (word / 2) y h in omega (arith, o.at)) (members_ascend k (place + 1) (word / 2))

-- the places of the ones of a word are a batch
pub members_are_batch : (word : ℕ) → IsBatch (members word)
unfolding members
members_are_batch word = record {
  ascending = members_ascend 64 0 word;
  below = λ k d within. let xs = members_from 64 0 word in
      (one_at_member word (get_or xs k d) (k, within, get_or_default xs k (get_or xs k d) d within)).0;
}

front_length : (b : Bool) (x : ℕ) (xs : List ℕ) → length (front_if b x xs) ≡ cond b 1 0 + length xs
front_length true x xs = omega arith
front_length false x xs = omega arith

low_digit : (r : ℕ) → r < 2 → cond (eqb r 1) 1 0 ≡ r
low_digit zero small = refl
low_digit (suc zero) small = refl
low_digit (suc (suc r)) small = absurd (omega arith)

ones_counted : (k place word : ℕ) → word < 2 ^ k → ones word ≡ length (members_from k place word)
unfolding members_from ones
ones_counted zero place word small = let none : word ≡ 0 = omega arith in ap ones none
ones_counted (suc k) place word small =
    let half : word / 2 < 2 ^ k = omega (arith, div-add-mod word 2, two-pow-succ k) in
    let digit : cond (eqb (word % 2) 1) 1 0 ≡ word % 2 = low_digit (word % 2) (mod-lt word (omega arith)) in
    let counted = front_length (eqb (word % 2) 1) place (members_from k (place + 1) (word / 2)) in
    let rest = ones_counted k (place + 1) (word / 2) half in
    ones_step word ∙ (omega (arith, digit, rest) ∙ sym counted)

-- a batch has as many orders as its word has ones
pub ones_are_members : (word : ℕ) → word < 2 ^ 64 → ones word ≡ length (members word)
unfolding members
ones_are_members word small = ones_counted 64 0 word small

front_get : (b : Bool) (x t : ℕ) (xs : List ℕ) → (b ≡ false → slice_get xs 0 ≡ Some t) → (b ≡ true → x ≡ t) → slice_get (front_if b x xs) 0 ≡ Some t
front_get true x t xs rest first = ap (λ (n : ℕ). Some n) (first refl)
front_get false x t xs rest first = rest refl

under_place : (r place t k : ℕ) → r < 2 → eqb r 1 ≡ false → place + 1 + t ≡ place + under r t
under_place zero place t k small e = omega arith
under_place (suc zero) place t k small e = absurd (cc e)
under_place (suc (suc r)) place t k small e = absurd (omega arith)

under_first : (r place t : ℕ) → eqb r 1 ≡ true → place ≡ place + under r t
under_first zero place t e = absurd (cc e)
under_first (suc r) place t e = omega arith

low_even : (r : ℕ) → r < 2 → eqb r 1 ≡ false → r ≡ 0
low_even zero small e = refl
low_even (suc zero) small e = absurd (cc e)
low_even (suc (suc r)) small e = absurd (omega arith)

odd_or_more : (word : ℕ) → 0 < word → eqb (word % 2) 1 ≡ false → 0 < word / 2
odd_or_more word some e =
    let small : word % 2 < 2 = mod-lt word (omega arith) in
    let even : word % 2 ≡ 0 = low_even (word % 2) small e in
    omega (arith, div-add-mod word 2)

first_from : (k place word : ℕ) → 0 < word → word < 2 ^ k → slice_get (members_from k place word) 0 ≡ Some (place + count_trailing_zeros k word)
unfolding members_from count_trailing_zeros
first_from zero place word some small = absurd (omega arith)
first_from (suc k) place word some small =
    let half : word / 2 < 2 ^ k = omega (arith, div-add-mod word 2, two-pow-succ k) in
    front_get (eqb (word % 2) 1) place (place + under (word % 2) (count_trailing_zeros k (word / 2))) (members_from k (place + 1) (word / 2))
    (λ even. first_from k (place + 1) (word / 2) (odd_or_more word some even) half
    ∙ ap (λ (n : ℕ). Some n) (under_place (word % 2) place (count_trailing_zeros k (word / 2)) k (mod-lt word (omega arith)) even))
    (λ odd. under_first (word % 2) place (count_trailing_zeros k (word / 2)) odd)

-- the least order of a batch stands at the lowest one of its word
pub first_member : (word : ℕ) → 0 < word → word < 2 ^ 64 → slice_get (members word) 0 ≡ Some (count_trailing_zeros 64 word)
unfolding members
first_member word some small = first_from 64 0 word some small ∙ ap (λ (n : ℕ). Some n) (omega arith)
