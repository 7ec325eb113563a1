-- Whole numbers that aren't below 0.
use Rattle.std.proofs.Common.{◌≡◌, ℕ, ◌*◌, ℤ, pos, negsuc, ◌+ℤ◌, ◌-ℤ◌, ◌*ℤ◌, ◌≤ℤ◌, arith, refl, ap, sym, ◌∙◌}
use Rattle.std.proofs.lemmas.Int.{ints}
use Rattle.wp_master.proofs.Numbers.{product_of_sum}

-- a whole number that isn't below 0 is a natural number
pub as_natural : (z : ℤ) → pos 0 ≤ℤ z → (n : ℕ) × (z ≡ pos n)
as_natural (pos n) h = (n, refl)
as_natural (negsuc n) h = absurd (omega (arith, ints, h))

natural_product : (a b : ℤ) (k n : ℕ) → a ≡ pos k → b ≡ pos n → a *ℤ b ≡ pos (k * n)
natural_product a b k n e f = rw (e, f) refl

-- a product of two numbers that aren't below 0 isn't
pub product_not_below : (a b : ℤ) → pos 0 ≤ℤ a → pos 0 ≤ℤ b → pos 0 ≤ℤ (a *ℤ b)
product_not_below a b least other =
    let k = as_natural a least in
    let n = as_natural b other in
    let e = natural_product a b k.0 n.0 k.1 n.1 in
    omega (arith, ints, e)

-- multiples by a number that isn't below 0 keep the order
pub times_most : (a x y : ℤ) → pos 0 ≤ℤ a → x ≤ℤ y → (a *ℤ x) ≤ℤ (a *ℤ y)
times_most a x y least most =
    let gap : pos 0 ≤ℤ (y -ℤ x) = omega (arith, ints, most) in
    let more = product_not_below a (y -ℤ x) least gap in
    let back : x +ℤ (y -ℤ x) ≡ y = omega (arith, ints) in
    let whole = sym (product_of_sum a x (y -ℤ x)) ∙ ap (λ (t : ℤ). a *ℤ t) back in
    omega (arith, ints, more, whole)
