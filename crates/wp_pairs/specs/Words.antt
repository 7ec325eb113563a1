-- The places of the ones of a word give the word back.
use Rattle.std.specs.Prelude.{◌≡◌, ℕ, zero, suc, ◌+◌, ◌*◌, ◌/◌, ◌%◌, ◌^◌, ◌<◌, Bool, true, false, List, ◌∷◌}
use Rattle.std.specs.Prelude.{if◌then◌else◌, refl}
use Rattle.std.proofs.Common.{ap, ◌∙◌, arith, eqb, eqb-true}
use Rattle.std.proofs.Math.Nat.{div-add-mod, mod-lt, two-pow-succ, pow-succ'}
use Rattle.wp_pairs.specs.Batches.{members, members_from, word_of}

two_more : (i : ℕ) → 2 ^ (i + 1) ≡ 2 * 2 ^ i
two_more i = let e : i + 1 ≡ suc i = omega arith in ap (λ (k : ℕ). 2 ^ k) e ∙ pow-succ' 2 i

even_zero : (r : ℕ) → r < 2 → eqb r 1 ≡ false → r ≡ 0
even_zero zero small e = refl
even_zero (suc zero) small e = absurd (cc e)
even_zero (suc (suc r)) small e = absurd (omega arith)

word_if : (b : Bool) (i : ℕ) (xs : List ℕ)
    → word_of (if b then i ∷ xs else xs) ≡ (if b then 2 ^ i + word_of xs else word_of xs)
word_if true i xs = refl
word_if false i xs = refl

step_word : (i n q rest : ℕ) (b : Bool) → eqb (n % 2) 1 ≡ b → n / 2 ≡ q → rest ≡ 2 ^ (i + 1) * q
    → (if b then 2 ^ i + rest else rest) ≡ 2 ^ i * n
step_word i n q rest true odd half is =
    let one : n % 2 ≡ 1 = eqb-true (n % 2) 1 odd in
    let whole : n ≡ 2 * q + 1 = omega (arith, div-add-mod n 2) in
    let pow = two_more i in
    rw (is, pow, whole) (omega arith)
step_word i n q rest false even half is =
    let small : n % 2 < 2 = mod-lt n (omega arith) in let none : n % 2 ≡ 0 = even_zero (n % 2) small even in
    let whole : n ≡ 2 * q = omega (arith, div-add-mod n 2) in
    let pow = two_more i in
    rw (is, pow, whole) (omega arith)

word_of-members_from : (k i n : ℕ) → n < 2 ^ k → word_of (members_from k i n) ≡ 2 ^ i * n
unfolding members_from
word_of-members_from zero i n small = let none : n ≡ 0 = omega arith in rw none (omega arith)
word_of-members_from (suc k) i n small =
    let half : n / 2 < 2 ^ k = omega (arith, div-add-mod n 2, two-pow-succ k) in
    word_if (eqb (n % 2) 1) i (members_from k (i + 1) (n / 2))
    ∙ step_word i n (n / 2) (word_of (members_from k (i + 1) (n / 2))) (eqb (n % 2) 1) refl refl
    (word_of-members_from k (i + 1) (n / 2) half)

-- the places of the ones give the word back
pub word_of-members : (n : ℕ) → n < 2 ^ 64 → word_of (members n) ≡ n
unfolding members
word_of-members n small = word_of-members_from 64 0 n small ∙ omega arith
