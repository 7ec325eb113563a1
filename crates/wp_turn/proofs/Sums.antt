-- Sums over lists that change at one place, and over the numbers below one.
use Rattle.std.proofs.Common.{◌≡◌, ℕ, zero, suc, ◌+◌, ◌<◌, ◌≤◌, ◌≢◌, List, [], ◌∷◌, ◌++◌, length, set, sym, refl, ap, arith, cond, eq-eqb, ne_eqb}
use mathlib.Core.Logic.{dite}
use native.Mathlib.Decide.{ℕ_discrete}
use mathlib.Core.Option.{some, some-injective, some-ne-none}
use lib.ListN.{get_elem?}
use Rattle.wp_turn.specs.Weights.{total, below, up_to, only}

module _ {A : Type 0} where
  module _ (g : A → ℕ) where
    -- the weight of a list in two parts
    pub total-append : (l m : List A) → total g (l ++ m) ≡ total g l + total g m
    total-append [] m = omega arith
    total-append (x ∷ xs) m = omega (arith, total-append xs m)

    -- the weight of a list that changes at one place
    pub total-set : (l : List A) (j : ℕ) (v w : A) → get_elem? l j ≡ some v → total g (set l j w) + g v ≡ total g l + g w
    total-set [] j v w e = absurd (some-ne-none v (sym e))
    total-set (x ∷ xs) zero v w e = omega (arith, ap g (some-injective x v e))
    total-set (x ∷ xs) (suc j) v w e = omega (arith, total-set xs j v w e)

    -- no item weighs more than the list
    pub term_le : (l : List A) (j : ℕ) (v : A) → get_elem? l j ≡ some v → g v ≤ total g l
    term_le [] j v e = absurd (some-ne-none v (sym e))
    term_le (x ∷ xs) zero v e = omega (arith, ap g (some-injective x v e))
    term_le (x ∷ xs) (suc j) v e = omega (arith, term_le xs j v e)

    -- nor do two items at two places
    pub terms_le : (l : List A) (j k : ℕ) (v u : A) → k ≢ j → get_elem? l j ≡ some v → get_elem? l k ≡ some u → g v + g u ≤ total g l
    terms_le [] j k v u n e d = absurd (some-ne-none v (sym e))
    terms_le (x ∷ xs) zero zero v u n e d = absurd (n refl)
    terms_le (x ∷ xs) zero (suc k) v u n e d = omega (arith, ap g (some-injective x v e), term_le xs k u d)
    terms_le (x ∷ xs) (suc j) zero v u n e d = omega (arith, ap g (some-injective x u d), term_le xs j v e)
    terms_le (x ∷ xs) (suc j) (suc k) v u n e d = omega (arith, terms_le xs j k v u (λ h. n (ap suc h)) e d)

  -- where each weight is no more than another, the sum is no more
  pub total-less : (g h : A → ℕ) (l : List A) → ((a : A) → g a ≤ h a) → total g l ≤ total h l
  total-less g h [] less = omega arith
  total-less g h (x ∷ xs) less = omega (arith, less x, total-less g h xs less)

  -- where each item weighs one, the weight is the length
  pub total-one : (l : List A) → total (λ _. 1) l ≡ length l
  total-one [] = refl
  total-one (x ∷ xs) = omega (arith, total-one xs)

-- where each number weighs one, those below n weigh n
pub below-one : (n : ℕ) → below (λ _. 1) n ≡ n
below-one zero = refl
below-one (suc n) = omega (arith, below-one n)

-- the numbers below the next one
pub below_more : (f : ℕ → ℕ) (n : ℕ) → below f (n + 1) ≡ below f n + f n
below_more f n = let e : n + 1 ≡ suc n = omega arith in ap (below f) e

-- the numbers up to the next one
pub up_to-more : (f : ℕ → ℕ) (n : ℕ) → up_to f (n + 1) ≡ up_to f n + f (n + 1)
up_to-more f n = let e : n + 1 ≡ suc n = omega arith in omega (arith, ap (up_to f) e, ap f e)

-- where each number weighs one, those from 1 to n weigh n
pub up_to-one : (n : ℕ) → up_to (λ _. 1) n ≡ n
up_to-one zero = refl
up_to-one (suc n) = omega (arith, up_to-one n)

-- a number counts itself once
pub only-same : (k : ℕ) → only k k ≡ 1
only-same k = ap (λ b. cond b 1 0) (eq-eqb k k refl)

-- a number counts no other
pub only-other : (k n : ℕ) → n ≢ k → only k n ≡ 0
only-other k n ne = ap (λ b. cond b 1 0) (ne_eqb n k ne)

-- a number counts at most once
pub only-most : (k n : ℕ) → only k n ≤ 1
only-most k n = dite (ℕ_discrete n k) (λ e. let one : only k n ≡ 1 = ap (λ b. cond b 1 0) (eq-eqb n k e) in omega arith)
    (λ ne. omega (arith, only-other k n ne))

below-only : (k n : ℕ) → (below (only k) n ≤ 1) × (n ≤ k → below (only k) n ≡ 0)
below-only k zero = (omega arith, λ _. refl)
below-only k (suc n) =
    let before = below-only k n in
    dite (ℕ_discrete n k)
    (λ e. let none_yet = before.1 (omega arith) in let one : only k n ≡ 1 = ap (λ b. cond b 1 0) (eq-eqb n k e) in (omega arith, λ h. absurd (omega arith)))
    (λ ne. let none_here = only-other k n ne in (omega (arith, before.0), λ h. omega (arith, before.1 (omega arith))))

-- each number stands at most once below another
pub below-once : (k n : ℕ) → below (only k) n ≤ 1
below-once k n = (below-only k n).0

up_to-only : (k n : ℕ) → (up_to (only k) n ≤ 1) × (n < k → up_to (only k) n ≡ 0)
up_to-only k zero = (omega arith, λ _. refl)
up_to-only k (suc n) =
    let before = up_to-only k n in
    dite (ℕ_discrete (suc n) k)
    (λ e. let none_yet = before.1 (omega arith) in let one : only k (suc n) ≡ 1 = ap (λ b. cond b 1 0) (eq-eqb (suc n) k e) in
    (omega arith, λ h. absurd (omega arith)))
    (λ ne. let none_here = only-other k (suc n) ne in (omega (arith, before.0), λ h. omega (arith, before.1 (omega arith))))

-- each number stands at most once from 1 to another, and not at all beyond it
pub up_to-once : (k n : ℕ) → up_to (only k) n ≤ 1
up_to-once k n = (up_to-only k n).0

-- a number beyond the last one is not among them
pub up_to-beyond : (k n : ℕ) → n < k → up_to (only k) n ≡ 0
up_to-beyond k n = (up_to-only k n).1
