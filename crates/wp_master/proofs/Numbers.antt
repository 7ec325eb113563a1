-- Laws of products of whole numbers.
use Rattle.std.proofs.Common.{◌≡◌, ℕ, ℤ, ◌+◌, ◌*◌, ◌+ℤ◌, ◌*ℤ◌, arith, ap}
use Rattle.std.proofs.lemmas.Int.{ints}
use borrow.Author.Differences.{up, down, product_is, same_in}

-- the same number times equal ones
pub scaled : (k m n : ℕ) → m ≡ n → m * k ≡ n * k
scaled k m n e = ap (λ (x : ℕ). x * k) e

-- products are grouped either way
pub product_of_product : (a b c : ℤ) → (a *ℤ b) *ℤ c ≡ a *ℤ (b *ℤ c)
product_of_product a b c =
    let ab = product_is a b in
    let bc = product_is b c in
    let left = product_is (a *ℤ b) c in
    let right = product_is a (b *ℤ c) in
    let ups : up ((a *ℤ b) *ℤ c) ≡ up (a *ℤ (b *ℤ c)) =
    omega (arith, scaled (up c) _ _ ab.0, scaled (down c) _ _ ab.1, scaled (up a) _ _ bc.0, scaled (down a) _ _ bc.1) in
    let downs : down ((a *ℤ b) *ℤ c) ≡ down (a *ℤ (b *ℤ c)) =
    omega (arith, scaled (down c) _ _ ab.0, scaled (up c) _ _ ab.1, scaled (down a) _ _ bc.0, scaled (up a) _ _ bc.1) in
    same_in _ _ (omega (arith, ups, downs))

difference_of_sum : (a b : ℤ) → up (a +ℤ b) + down a + down b ≡ down (a +ℤ b) + up a + up b
difference_of_sum a b = omega (arith, ints)

-- a product with a sum
pub product_of_sum : (a b c : ℤ) → a *ℤ (b +ℤ c) ≡ (a *ℤ b) +ℤ (a *ℤ c)
product_of_sum a b c =
    let whole = product_is a (b +ℤ c) in
    let first = product_is a b in
    let second = product_is a c in
    let sum = difference_of_sum (a *ℤ b) (a *ℤ c) in
    let inner = difference_of_sum b c in
    same_in _ _ (omega (arith, whole, first, second, sum, scaled (up a) _ _ inner, scaled (down a) _ _ inner))
