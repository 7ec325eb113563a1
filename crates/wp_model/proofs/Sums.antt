-- Sums over places.
use Rattle.std.proofs.Common.{◌≡◌, ◌≢◌, ℕ, zero, suc, ◌+◌, ◌<◌, ◌≤◌, inl, inr, refl, ap, arith}
use Rattle.std.proofs.lemmas.Bool.{cases_eq}
use Rattle.wp_model.specs.Sums.{sum_below}

-- sums of equal terms are equal
pub sum-agree : (n : ℕ) (f g : ℕ → ℕ) → ((k : ℕ) → k < n → f k ≡ g k) → sum_below n f ≡ sum_below n g
sum-agree zero f g same = refl
sum-agree (suc n) f g same =
    let before = sum-agree n f g (λ k within. same k (omega arith)) in
    omega (arith, before, same n (omega arith))

-- a sum of sums
pub sum-add : (n : ℕ) (f g : ℕ → ℕ) → sum_below n (λ k. f k + g k) ≡ sum_below n f + sum_below n g
sum-add zero f g = refl
sum-add (suc n) f g = omega (arith, sum-add n f g)

-- a sum of terms that are 0
pub sum-zero : (n : ℕ) (f : ℕ → ℕ) → ((k : ℕ) → k < n → f k ≡ 0) → sum_below n f ≡ 0
sum-zero zero f none = refl
sum-zero (suc n) f none =
    let before = sum-zero n f (λ k within. none k (omega arith)) in
    omega (arith, before, none n (omega arith))

-- a sum of terms that are no smaller is no smaller
pub sum-le : (n : ℕ) (f g : ℕ → ℕ) → ((k : ℕ) → k < n → f k ≤ g k) → sum_below n f ≤ sum_below n g
sum-le zero f g within = omega arith
sum-le (suc n) f g within =
    let before = sum-le n f g (λ k below. within k (omega arith)) in
    omega (arith, before, within n (omega arith))

-- each term is within the sum
pub term-le-sum : (n : ℕ) (f : ℕ → ℕ) (k : ℕ) → k < n → f k ≤ sum_below n f
term-le-sum zero f k within = absurd (omega arith)
term-le-sum (suc n) f k within = elim (cases_eq k n) [
  | inl e ↦ omega (arith, ap f e)
  | inr other ↦ omega (arith, term-le-sum n f k (omega arith))
]

-- a sum over more places is no smaller
pub sum-grows : (m n : ℕ) (f : ℕ → ℕ) → m ≤ n → sum_below m f ≤ sum_below n f
sum-grows m zero f upto =
    let e : m ≡ 0 = omega arith in
    omega (arith, ap (λ x. sum_below x f) e)
sum-grows m (suc n) f upto = elim (cases_eq m (suc n)) [
  | inl e ↦ omega (arith, ap (λ x. sum_below x f) e)
  | inr other ↦ omega (arith, sum-grows m n f (omega arith))
]

-- two sums whose terms differ at one place alone
pub sum-one_changed : (n : ℕ) (f g : ℕ → ℕ) (at : ℕ) → at < n → ((k : ℕ) → k ≢ at → f k ≡ g k) → sum_below n f + g at ≡ sum_below n g + f at
sum-one_changed zero f g at within same = absurd (omega arith)
sum-one_changed (suc n) f g at within same = elim (cases_eq at n) [
  | inl e ↦ omega (arith, ap f e, ap g e, sum-agree n f g (λ k below. same k (omega arith)))
  | inr other ↦ omega (arith, same n (omega arith), sum-one_changed n f g at (omega arith) same)
]
