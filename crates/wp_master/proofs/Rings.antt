-- Equations of sums and products of whole numbers, read as differences of natural numbers.
use borrow.Author.Differences.{up, down, product_is, same_in}
use Rattle.std.proofs.Common.{◌≡◌, ℕ, ◌+◌, ◌*◌, ℤ, pos, ◌+ℤ◌, ◌-ℤ◌, ◌*ℤ◌, neg_ℤ, arith, ap, refl, ◌∙◌}
use Rattle.std.proofs.Math.IntN.{*ℤ_comm}
use Rattle.std.proofs.lemmas.Int.{ints}
use Rattle.wp_master.proofs.Numbers.{scaled}

difference : ℕ → ℕ → ℤ
difference a b = pos a -ℤ pos b

read : (x : ℤ) → x ≡ difference (up x) (down x)
unfolding difference
read x = omega (arith, ints)

apart : (a b : ℕ) → up (difference a b) + b ≡ down (difference a b) + a
unfolding difference
apart a b = omega (arith, ints)

same : (a b c d : ℕ) → a + d ≡ c + b → difference a b ≡ difference c d
unfolding difference
same a b c d e = omega (arith, ints, e)

sums : (a b c d : ℕ) → difference a b +ℤ difference c d ≡ difference (a + c) (b + d)
unfolding difference
sums a b c d = omega (arith, ints)

turned : (a b : ℕ) → neg_ℤ (difference a b) ≡ difference b a
unfolding difference
turned a b = omega (arith, ints)

products : (a b c d : ℕ) → difference a b *ℤ difference c d ≡ difference (a * c + b * d) (a * d + b * c)
products a b c d =
    let x = difference a b in
    let y = difference c d in
    let product = product_is x y in
    let whole = apart (a * c + b * d) (a * d + b * c) in
    let one = apart a b in
    let two = apart c d in
    same_in _ _ (omega (arith, product, whole, scaled (up y) _ _ one, scaled (down y) _ _ one, scaled a _ _ two, scaled b _ _ two))

-- a term whose second factor and rest are turned
pub swapped_term : (a b c d e : ℤ) → b ≡ neg_ℤ d → c ≡ neg_ℤ e → (a *ℤ b) -ℤ c ≡ neg_ℤ ((a *ℤ d) -ℤ e)
swapped_term a b c d e f g = rw (f, g, read a, read d, read e) (simp (products, sums, turned) (same _ _ _ _ (omega arith)))

-- two terms in either order, with a rest that is turned
pub swapped_terms : (a b c d : ℤ) → c ≡ neg_ℤ d → a -ℤ (b -ℤ c) ≡ neg_ℤ (b -ℤ (a -ℤ d))
swapped_terms a b c d e = rw (e, read a, read b, read d) (simp (sums, turned) (same _ _ _ _ (omega arith)))

distributed : (q z f g : ℤ) → q *ℤ ((z *ℤ f) -ℤ g) ≡ (z *ℤ (q *ℤ f)) -ℤ (q *ℤ g)
distributed q z f g = rw (read q, read z, read f, read g) (simp (products, sums, turned) (same _ _ _ _ (omega arith)))

gathered : (a z f g h k : ℤ) → (z *ℤ ((a *ℤ f) +ℤ h)) -ℤ ((a *ℤ g) +ℤ k) ≡ (a *ℤ ((z *ℤ f) -ℤ g)) +ℤ ((z *ℤ h) -ℤ k)
gathered a z f g h k = rw (read a, read z, read f, read g, read h, read k) (simp (products, sums, turned) (same _ _ _ _ (omega arith)))

-- a term whose second factor and rest are linear
pub linear_term : (q a z f g h k l m : ℤ) → q *ℤ f ≡ (a *ℤ h) +ℤ l → q *ℤ g ≡ (a *ℤ k) +ℤ m
    → q *ℤ ((z *ℤ f) -ℤ g) ≡ (a *ℤ ((z *ℤ h) -ℤ k)) +ℤ ((z *ℤ l) -ℤ m)
linear_term q a z f g h k l m e i =
    distributed q z f g ∙ ap (λ (t : ℤ). (z *ℤ t) -ℤ (q *ℤ g)) e ∙ ap (λ (t : ℤ). (z *ℤ ((a *ℤ h) +ℤ l)) -ℤ t) i ∙ gathered a z h k l m

distributed_head : (q v f g : ℤ) → q *ℤ ((v *ℤ f) -ℤ g) ≡ ((q *ℤ v) *ℤ f) -ℤ (q *ℤ g)
distributed_head q v f g = rw (read q, read v, read f, read g) (simp (products, sums, turned) (same _ _ _ _ (omega arith)))

gathered_head : (a u w f k m : ℤ) → (((a *ℤ u) +ℤ w) *ℤ f) -ℤ ((a *ℤ k) +ℤ m) ≡ (a *ℤ ((u *ℤ f) -ℤ k)) +ℤ ((w *ℤ f) -ℤ m)
gathered_head a u w f k m = rw (read a, read u, read w, read f, read k, read m) (simp (products, sums, turned) (same _ _ _ _ (omega arith)))

-- a term whose first factor and rest are linear
pub linear_head : (q a v u w f g k m : ℤ) → q *ℤ v ≡ (a *ℤ u) +ℤ w → q *ℤ g ≡ (a *ℤ k) +ℤ m
    → q *ℤ ((v *ℤ f) -ℤ g) ≡ (a *ℤ ((u *ℤ f) -ℤ k)) +ℤ ((w *ℤ f) -ℤ m)
linear_head q a v u w f g k m e i =
    distributed_head q v f g ∙ ap (λ (t : ℤ). (t *ℤ f) -ℤ (q *ℤ g)) e ∙ ap (λ (t : ℤ). (((a *ℤ u) +ℤ w) *ℤ f) -ℤ t) i ∙ gathered_head a u w f k m

-- a number that is itself turned is 0
pub turned_itself : (x : ℤ) → x ≡ neg_ℤ x → x ≡ pos 0
turned_itself x e = omega (arith, ints, e)

-- a number turned twice
pub turned_twice : (x : ℤ) → neg_ℤ (neg_ℤ x) ≡ x
turned_twice x = omega (arith, ints)

-- a number that is twice itself is 0
pub doubled : (x : ℤ) → pos 1 *ℤ x ≡ (pos 1 *ℤ x) +ℤ x → x ≡ pos 0
doubled x e = omega (arith, ints, e)

-- a sum with one more product
pub one_more : (c a b : ℤ) → pos 1 *ℤ (a +ℤ (b *ℤ c)) ≡ (c *ℤ b) +ℤ a
one_more c a b = omega (arith, ints, *ℤ_comm b c)

-- the same from a linear equation
pub one_more_term : (x c a b : ℤ) → pos 1 *ℤ x ≡ (c *ℤ b) +ℤ a → x ≡ a +ℤ (b *ℤ c)
one_more_term x c a b e = omega (arith, ints, e, *ℤ_comm b c)

-- an equation with a term of 0
pub without : (q x y : ℤ) → q *ℤ x ≡ y → q *ℤ x ≡ (pos 0 *ℤ x) +ℤ y
without q x y e = omega (arith, ints, e)

pub without_term : (q x y : ℤ) → q *ℤ x ≡ (pos 0 *ℤ x) +ℤ y → q *ℤ x ≡ y
without_term q x y e = omega (arith, ints, e)

-- the difference of two products
pub two_terms : (x y s t u : ℤ) → u ≡ neg_ℤ y → (x *ℤ s) +ℤ (u *ℤ t) ≡ (s *ℤ x) -ℤ (t *ℤ y)
two_terms x y s t u e = rw (e, read x, read s, read y, read t) (simp (products, sums, turned) (same _ _ _ _ (omega arith)))

-- a term that is 0, and a rest that is
pub no_terms : (z x y : ℤ) → z ≡ pos 0 → y ≡ pos 0 → (z *ℤ x) -ℤ y ≡ pos 0
no_terms z x y e f = rw (e, f) (omega (arith, ints))

-- a product of 1 and 1, and a rest of 0
pub one_term : (z x y : ℤ) → z ≡ pos 1 → x ≡ pos 1 → y ≡ pos 0 → (z *ℤ x) -ℤ y ≡ pos 1
one_term z x y e f g = rw (e, f, g) refl

-- a product with 0
pub no_times : (x y : ℤ) → x ≡ pos 0 → x *ℤ y ≡ pos 0
no_times x y e = rw e (omega (arith, ints))

-- a term of 0 behind a number
pub last_out : (x u c : ℤ) → u ≡ pos 0 → x ≡ x +ℤ (u *ℤ c)
last_out x u c e = rw e (omega (arith, ints))

-- a number times 1 behind another
pub last_in : (x u c : ℤ) → u ≡ pos 1 → c +ℤ x ≡ x +ℤ (u *ℤ c)
last_in x u c e = rw e (omega (arith, ints))

-- two numbers that are the same times 1
pub one_times : (x y z : ℤ) → y ≡ pos 1 → pos 1 *ℤ x ≡ y *ℤ z → x ≡ z
one_times x y z e f = let g = f ∙ ap (λ (t : ℤ). t *ℤ z) e in omega (arith, ints, g)
