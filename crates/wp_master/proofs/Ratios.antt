-- Ratios of whole numbers over numbers above 0, compared by products.
use Rattle.std.proofs.Common.{◌≡◌, ℕ, ◌+◌, ◌*◌, ◌<◌, ◌≤◌, ℤ, pos, negsuc, ◌*ℤ◌, ◌<ℤ◌, ◌≤ℤ◌, arith, ap, refl, sym, subst, ◌∙◌}
use Rattle.std.proofs.Math.IntN.{*ℤ_comm}
use Rattle.wp_master.proofs.Numbers.{product_of_product}
use borrow.Author.Differences.{up, down, product_is}
use Rattle.std.proofs.lemmas.Int.{by_lt_z, ints}

times_less : (k m n : ℕ) → 0 < k → m < n → m * k < n * k
times_less k m n some less = grind arith

times_most : (k m n : ℕ) → m ≤ n → m * k ≤ n * k
times_most k m n most = grind arith

-- a product with a number above 0 keeps the order
pub less_times : (k x y : ℤ) → pos 0 <ℤ k → x <ℤ y → (x *ℤ k) <ℤ (y *ℤ k)
less_times (pos k) x y some less =
    let above : 0 < k = omega (arith, ints, some) in
    let apart : up x + down y < up y + down x = omega (arith, ints, less) in
    let left = product_is x (pos k) in
    let right = product_is y (pos k) in
    omega (arith, ints, left, right, times_less k (up x + down y) (up y + down x) above apart)
less_times (negsuc k) x y some less = absurd (omega (arith, ints, some))

pub same_times : (k x y : ℤ) → x ≡ y → (x *ℤ k) ≡ (y *ℤ k)
same_times k x y e = ap (λ (t : ℤ). t *ℤ k) e

most_times : (k x y : ℤ) → pos 0 <ℤ k → y ≤ℤ x → (x *ℤ k) <ℤ (y *ℤ k) → ⊥
most_times (pos k) x y some most less =
    let apart : up y + down x ≤ up x + down y = omega (arith, ints, most) in
    let left = product_is x (pos k) in
    let right = product_is y (pos k) in
    omega (arith, ints, less, left, right, times_most k (up y + down x) (up x + down y) apart)
most_times (negsuc k) x y some most less = absurd (omega (arith, ints, some))

-- a factor above 0 that two products share tells nothing of their order
pub less_over : (k x y : ℤ) → pos 0 <ℤ k → (x *ℤ k) <ℤ (y *ℤ k) → x <ℤ y
less_over k x y some less = by_lt_z x y (λ (l : x <ℤ y). l) (λ (most : y ≤ℤ x). absurd (most_times k x y some most less))

-- a factor above 0 that two equal products share can be left out
pub same_over : (k x y : ℤ) → pos 0 <ℤ k → (x *ℤ k) ≡ (y *ℤ k) → x ≡ y
same_over k x y some same = by_lt_z x y
    (λ (l : x <ℤ y). let product = less_times k x y some l in absurd (omega (arith, ints, product, same)))
    (λ (m : y ≤ℤ x). by_lt_z y x (λ (l : y <ℤ x). let product = less_times k y x some l in absurd (omega (arith, ints, product, same)))
    (λ (n : x ≤ℤ y). omega (arith, ints, m, n)))

swapped : (u v w : ℤ) → (u *ℤ v) *ℤ w ≡ (u *ℤ w) *ℤ v
swapped u v w = product_of_product u v w ∙ ap (λ (t : ℤ). u *ℤ t) (*ℤ_comm v w) ∙ sym (product_of_product u w v)

-- ratios x / a, y / b and z / c, the first equal to the second and that to the third
pub ratio_same : (x y z a b c : ℤ) → pos 0 <ℤ b → (x *ℤ b) ≡ (y *ℤ a) → (y *ℤ c) ≡ (z *ℤ b) → (x *ℤ c) ≡ (z *ℤ a)
ratio_same x y z a b c some one two = same_over b (x *ℤ c) (z *ℤ a) some
    (swapped x c b ∙ same_times c _ _ one ∙ swapped y a c ∙ same_times a _ _ two ∙ swapped z b a)

less_along : (a b c d : ℤ) → a ≡ b → b <ℤ c → c ≡ d → a <ℤ d
less_along a b c d e l f = subst (λ (t : ℤ). t <ℤ d) (sym e) (subst (λ (t : ℤ). b <ℤ t) f l)

-- the first below the second, and that equal to the third
pub ratio_less_same : (x y z a b c : ℤ) → pos 0 <ℤ b → pos 0 <ℤ c → (x *ℤ b) <ℤ (y *ℤ a) → (y *ℤ c) ≡ (z *ℤ b) → (x *ℤ c) <ℤ (z *ℤ a)
ratio_less_same x y z a b c some more one two = less_over b (x *ℤ c) (z *ℤ a) some
    (less_along _ _ _ _ (swapped x c b) (less_times c _ _ more one) (swapped y a c ∙ same_times a _ _ two ∙ swapped z b a))

-- the first equal to the second, and that below the third
pub ratio_same_less : (x y z a b c : ℤ) → pos 0 <ℤ a → pos 0 <ℤ b → (x *ℤ b) ≡ (y *ℤ a) → (y *ℤ c) <ℤ (z *ℤ b) → (x *ℤ c) <ℤ (z *ℤ a)
ratio_same_less x y z a b c more some one two = less_over b (x *ℤ c) (z *ℤ a) some
    (less_along _ _ _ _ (swapped x c b ∙ same_times c _ _ one ∙ swapped y a c) (less_times a _ _ more two) (swapped z b a))

less_through : (a b c : ℤ) → a <ℤ b → b <ℤ c → a <ℤ c
less_through a b c l m = omega (arith, ints, l, m)

-- the first below the second, and that below the third
pub ratio_less : (x y z a b c : ℤ) → pos 0 <ℤ a → pos 0 <ℤ b → pos 0 <ℤ c → (x *ℤ b) <ℤ (y *ℤ a) → (y *ℤ c) <ℤ (z *ℤ b) → (x *ℤ c) <ℤ (z *ℤ a)
ratio_less x y z a b c first some third one two = less_over b (x *ℤ c) (z *ℤ a) some
    (less_through _ ((y *ℤ a) *ℤ c) _ (less_along _ _ _ _ (swapped x c b) (less_times c _ _ third one) refl)
    (less_along _ _ _ _ (swapped y a c) (less_times a _ _ first two) (swapped z b a)))
