-- Batches joined, one held in another, and two that meet, from the digits of their words.
use Rattle.std.proofs.Common.{◌+◌, ◌/◌, ◌≤◌, ap₂, max}
use Rattle.std.proofs.Common.{◌≡◌, ◌≢◌, ℕ, ◌*◌, ◌%◌, ◌^◌, ◌<◌, ◌↔◌, Bool, true, false, min, arith, refl, ap, sym, ◌∙◌, inl, inr, ◌⊎◌, ⊎_elim, Contains}
use Rattle.std.proofs.Common.{IsTrue, eqb, eqb-true, eq-eqb, bit_or, bit_and, not, zero, suc}
use Rattle.std.specs.Int.{bit_at, bit_not, trailing_zeros, w64}
use Rattle.std.specs.Int.Count.{ones, ones_step}
use Rattle.std.proofs.Math.Nat.{div-add-mod, two-pow-succ}
use Rattle.std.proofs.lemmas.Bool.{cases_eq}
use Rattle.std.proofs.lemmas.Nat.{and_le_l, and_le_r, or_lt}
use Rattle.std.proofs.lemmas.Nat.Bits.{bit_at-lt, bit_at_clear_other, bit_at_clear_same, bit_at_or, bit_at_and, bit_at_set_same, bit_at_set_other}
use Rattle.std.proofs.lemmas.Nat.Bits.{same_from_bits_below, same_from_bits, bit_at_lowest, bit_at-suc, bit_at-trailing_zeros, bit_at-zero}
use Rattle.wp_pairs.specs.Batches.{members}
use Rattle.wp_pairs.proofs.Members.{member_at_one, one_at_member}

-- the word of a union fits 64 bits
pub union_fits : (a b : ℕ) → a < 2 ^ 64 → b < 2 ^ 64 → bit_or a b < 2 ^ 64
union_fits a b p q = or_lt 64 a b p q

-- the members of a union are those of either batch
pub union_members : (a b p : ℕ) → Contains (members (bit_or a b)) p ↔ (Contains (members a) p ⊎ Contains (members b) p)
union_members a b p =
    let or = bit_at_or a b p in (
      λ has. let m = one_at_member (bit_or a b) p has in
          ⊎_elim (λ one. inl (member_at_one a p m.0 one)) (λ none. inr (member_at_one b p m.0 (omega (arith, or, m.1, bit_at-lt a p))))
          (cases_eq (bit_at a p) 1),
      ⊎_elim
          (λ left. let m = one_at_member a p left in member_at_one (bit_or a b) p m.0 (omega (arith, or, m.1, bit_at-lt b p)))
          (λ right. let m = one_at_member b p right in member_at_one (bit_or a b) p m.0 (omega (arith, or, m.1, bit_at-lt a p))),
    )

-- common ones fit 64 bits
and_within : (a b : ℕ) → b < 2 ^ 64 → bit_and a b < 2 ^ 64
and_within a b small = omega (arith, and_le_r a b)

-- the word with one more one fits 64 bits
pub with_one_fits : (a i : ℕ) → a < 2 ^ 64 → bit_or a (1 * 2 ^ i % 2 ^ 64) < 2 ^ 64
with_one_fits a i p = union_fits a (1 * 2 ^ i % 2 ^ 64) p (omega arith)

-- with one more one a batch has one more order
pub with_one : (a i : ℕ) → i < 64 → (p : ℕ) → Contains (members (bit_or a (1 * 2 ^ i % 2 ^ 64))) p ↔ (Contains (members a) p ⊎ (p ≡ i))
with_one a i small p =
    let word = bit_or a (1 * 2 ^ i % 2 ^ 64) in (
      λ has. let m = one_at_member word p has in
          ⊎_elim (λ same. inr same) (λ ne. inl (member_at_one a p m.0 (sym (bit_at_set_other w64 a i small p ne) ∙ m.1))) (cases_eq p i),
      ⊎_elim
          (λ old. let m = one_at_member a p old in
          ⊎_elim (λ same. member_at_one word p m.0 (ap (bit_at word) same ∙ bit_at_set_same w64 a i small))
          (λ ne. member_at_one word p m.0 (bit_at_set_other w64 a i small p ne ∙ m.1)) (cases_eq p i))
          (λ same. member_at_one word p (omega arith) (ap (bit_at word) same ∙ bit_at_set_same w64 a i small)),
    )

-- a one of the second word is a one of the first too, or the second has none there
held_digit : (a b i : ℕ) → i < 64 → ((p : ℕ) → Contains (members b) p → Contains (members a) p) → bit_at (bit_and a b) i ≡ bit_at b i
held_digit a b i within held =
    ⊎_elim
    (λ one. let other = (one_at_member a i (held i (member_at_one b i within one))).1 in omega (arith, bit_at_and a b i, one, other))
    (λ none. omega (arith, bit_at_and a b i, none, bit_at-lt b i))
    (cases_eq (bit_at b i) 1)

-- all of a batch is in another where their common ones are all of its ones
pub all_held : (a b : ℕ) → b < 2 ^ 64 → (IsTrue (eqb (bit_and a b) b)) ↔ ((p : ℕ) → Contains (members b) p → Contains (members a) p)
all_held a b small = (
  λ same p has. let m = one_at_member b p has in
      let both : min (bit_at a p) (bit_at b p) ≡ bit_at b p = sym (bit_at_and a b p) ∙ ap (λ n. bit_at n p) (eqb-true _ _ same) in
      member_at_one a p m.0 (omega (arith, both, m.1, bit_at-lt a p)),
  λ held. eq-eqb _ _ (same_from_bits_below 64 (bit_and a b) b (and_within a b small) small (λ i within. held_digit a b i within held)),
)

-- where two words have no common one, no order is in both batches
pub none_common : (a b : ℕ) → bit_and a b ≡ 0 → (p : ℕ) → Contains (members a) p → Contains (members b) p → ⊥
none_common a b none p left right =
    let l = one_at_member a p left in
    let r = one_at_member b p right in
    let zero_there : bit_at (bit_and a b) p ≡ 0 = ap (λ n. bit_at n p) none ∙ bit_at-zero p in
    omega (arith, bit_at_and a b p, zero_there, l.1, r.1)

-- where two words have a common one, some order is in both batches
pub some_common : (a b : ℕ) → bit_and a b ≢ 0 → b < 2 ^ 64 → (p : ℕ) × Contains (members a) p × Contains (members b) p
some_common a b some small =
    let both = bit_and a b in
    let positive : 0 < both = omega arith in
    let first = bit_at-trailing_zeros w64 both positive (and_within a b small) in
    let p = trailing_zeros w64 both in
    let one : min (bit_at a p) (bit_at b p) ≡ 1 = sym (bit_at_and a b p) ∙ first.1 in
    (p, member_at_one a p first.0 (omega (arith, one, bit_at-lt a p)), member_at_one b p first.0 (omega (arith, one, bit_at-lt b p)))

-- a test that a number is not 0
pub not_zero : (n : ℕ) → not (eqb n 0) ≡ true → n ≢ 0
not_zero zero e = absurd (cc e)
not_zero (suc n) e = λ is. absurd (omega arith)

flipped : (b : Bool) → not b ≡ false → b ≡ true
flipped true e = refl
flipped false e = absurd (cc e)

-- a test that fails: the number is 0
pub is_zero : (n : ℕ) → not (eqb n 0) ≡ false → n ≡ 0
is_zero n e = eqb-true n 0 (flipped (eqb n 0) e)

-- a test that does not pass has a negation that does
pub negated : (b : Bool) → (b ≡ true → ⊥) → not b ≡ true
negated true never = absurd (never refl)
negated false never = refl

-- a negation that passes: the test does not
pub unnegated : (b : Bool) → not b ≡ true → b ≡ false
unnegated true e = absurd (cc e)
unnegated false e = refl

half_of_union : (a b : ℕ) → bit_or a b / 2 ≡ bit_or (a / 2) (b / 2)
half_of_union a b = same_from_bits _ _ (λ i. sym (bit_at-suc (bit_or a b) i)
    ∙ (bit_at_or a b (suc i) ∙ (ap₂ max (bit_at-suc a i) (bit_at-suc b i) ∙ sym (bit_at_or (a / 2) (b / 2) i))))

lowest_of_union : (a b : ℕ) → bit_or a b % 2 ≤ a % 2 + b % 2
lowest_of_union a b = omega (arith, bit_at_lowest (bit_or a b), bit_at_or a b 0, bit_at_lowest a, bit_at_lowest b)

-- a union has no more ones than both words together
pub ones_of_union : (k a b : ℕ) → a < 2 ^ k → b < 2 ^ k → ones (bit_or a b) ≤ ones a + ones b
unfolding ones
ones_of_union zero a b p q =
    let none : a ≡ 0 = omega arith in
    let none_too : b ≡ 0 = omega arith in
    rw (none, none_too) (omega arith)
ones_of_union (suc k) a b p q =
    let left : a / 2 < 2 ^ k = omega (arith, div-add-mod a 2, two-pow-succ k) in
    let right : b / 2 < 2 ^ k = omega (arith, div-add-mod b 2, two-pow-succ k) in
    let rest = ones_of_union k (a / 2) (b / 2) left right in
    let half = ap ones (half_of_union a b) in
    omega (arith, ones_step (bit_or a b), ones_step a, ones_step b, lowest_of_union a b, half, rest)

-- without one of its ones a word has the other orders
pub without_one : (a i : ℕ) → i < 64 → (p : ℕ) → Contains (members (bit_and a (bit_not w64 (1 * 2 ^ i % 2 ^ 64)))) p ↔ (Contains (members a) p × (p ≢ i))
without_one a i small p =
    let word = bit_and a (bit_not w64 (1 * 2 ^ i % 2 ^ 64)) in (
      λ has. let m = one_at_member word p has in
          let other : p ≢ i = λ (e : p ≡ i).
          let clear : bit_at word p ≡ 0 = ap (bit_at word) e ∙ bit_at_clear_same w64 a i small in omega (arith, clear, m.1) in
          (member_at_one a p m.0 (sym (bit_at_clear_other w64 a i small p m.0 other) ∙ m.1), other),
      λ both. let m = one_at_member a p both.0 in member_at_one word p m.0 (bit_at_clear_other w64 a i small p m.0 both.1 ∙ m.1),
    )

-- common ones of a word that fits 64 bits fit them too
pub common_fits : (a b : ℕ) → a < 2 ^ 64 → bit_and a b < 2 ^ 64
common_fits a b small = omega (arith, and_le_l a b)
