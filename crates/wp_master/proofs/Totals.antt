-- Sums of what the numbers below one have.
use Rattle.std.proofs.Common.{◌≡◌, ◌≢◌, ⊎_elim, ℕ, zero, suc, ◌<◌, ℤ, pos, ◌+ℤ◌, arith, ap, refl, ◌∙◌}
use Rattle.std.proofs.lemmas.Bool.{cases_eq}
use Rattle.std.proofs.lemmas.Int.{ints}
use Rattle.wp_master.specs.Bases.{total_below}

sum_along : (a b c d : ℤ) → a ≡ c → b ≡ d → a +ℤ b ≡ c +ℤ d
sum_along a b c d e f = ap (λ (t : ℤ). t +ℤ b) e ∙ ap (λ (t : ℤ). c +ℤ t) f

none_left : (a b : ℤ) → b ≡ pos 0 → a +ℤ b ≡ a
none_left a b e = omega (arith, ints, e)

last_left : (a b : ℤ) → a ≡ pos 0 → a +ℤ b ≡ b
last_left a b e = omega (arith, ints, e)

turned_sum : (a b c d : ℤ) → a ≡ c → b ≡ d → a +ℤ b ≡ d +ℤ c
turned_sum a b c d e f = omega (arith, ints, e, f)

-- sums of the same terms
pub same_total : (n : ℕ) (f g : ℕ → ℤ) → ((t : ℕ) → t < n → f t ≡ g t) → total_below n f ≡ total_below n g
unfolding total_below
same_total zero f g each = refl
same_total (suc n) f g each = sum_along _ _ _ _ (same_total n f g (λ t low. each t (omega (arith, low)))) (each n (omega arith))

-- a sum of nothing
pub no_total : (n : ℕ) (f : ℕ → ℤ) → ((t : ℕ) → t < n → f t ≡ pos 0) → total_below n f ≡ pos 0
unfolding total_below
no_total zero f each = refl
no_total (suc n) f each = none_left _ _ (each n (omega arith)) ∙ no_total n f (λ t low. each t (omega (arith, low)))

-- a sum in which one term alone isn't 0
pub one_total : (n : ℕ) (f : ℕ → ℤ) (k : ℕ) → k < n → ((t : ℕ) → t < n → t ≢ k → f t ≡ pos 0) → total_below n f ≡ f k
unfolding total_below
one_total zero f k within each = absurd (omega (arith, within))
one_total (suc n) f k within each = ⊎_elim
    (λ (e : n ≡ k). last_left _ _ (no_total n f (λ t low. each t (omega (arith, low)) (λ h. omega (arith, low, h, e)))) ∙ ap f e)
    (λ (other : n ≢ k). none_left _ _ (each n (omega arith) other)
    ∙ one_total n f k (grind (arith, within, other)) (λ t low. each t (omega (arith, low)))) (cases_eq n k)

-- a sum in which two terms alone aren't 0
pub two_total : (n : ℕ) (f : ℕ → ℤ) (i k : ℕ) → i < n → k < n → i ≢ k → ((t : ℕ) → t < n → t ≢ i → t ≢ k → f t ≡ pos 0)
    → total_below n f ≡ f i +ℤ f k
unfolding total_below
two_total zero f i k low within apart each = absurd (omega (arith, within))
two_total (suc n) f i k low within apart each = ⊎_elim
    (λ (e : n ≡ k). sum_along _ _ _ _
    (one_total n f i (grind (arith, low, e, apart)) (λ t l other. each t (omega (arith, l)) other (λ h. omega (arith, l, h, e)))) (ap f e))
    (λ (other : n ≢ k). ⊎_elim
    (λ (e : n ≡ i). turned_sum _ _ _ _
    (one_total n f k (grind (arith, within, e, apart)) (λ t l unequal. each t (omega (arith, l)) (λ h. omega (arith, l, h, e)) unequal)) (ap f e))
    (λ (unequal : n ≢ i). none_left _ _ (each n (omega arith) unequal other)
    ∙ two_total n f i k (grind (arith, low, unequal)) (grind (arith, within, other)) apart (λ t l. each t (omega (arith, l))))
    (cases_eq n i)) (cases_eq n k)
