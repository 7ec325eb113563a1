-- Products of two numbers that leave 128 bits.
use borrow.Author.Differences.{up, down}
use Rattle.std.proofs.Common.{◌≡◌, ◌⊎◌, ⊎_elim, ℕ, ◌+◌, ◌*◌, ◌^◌, ◌<◌, ◌≤◌, negsuc, ℤ, pos, ◌*ℤ◌, ◌-ℤ◌, FitsSigned, arith, inl, inr}
use Rattle.std.proofs.Common.{subst, sym, ◌∙◌, ap}
use Rattle.std.proofs.Math.IntN.{*ℤ_comm}
use Rattle.std.proofs.lemmas.Int.{ints}
use Rattle.std.specs.Int.{w128, w64}
use Rattle.wp_master.proofs.Numbers.{product_of_product}
use Rattle.wp_master.specs.Pivots.{IsTwofoldOf, IsWideFor}

twice_left : (x y : ℤ) → (x *ℤ pos 2) *ℤ y ≡ pos 2 *ℤ (x *ℤ y)
twice_left x y = ap (λ (t : ℤ). t *ℤ y) (*ℤ_comm x (pos 2)) ∙ product_of_product (pos 2) x y

twice_right : (x y : ℤ) → (y *ℤ pos 2) *ℤ x ≡ pos 2 *ℤ (x *ℤ y)
twice_right x y = twice_left y x ∙ ap (λ (t : ℤ). pos 2 *ℤ t) (*ℤ_comm y x)

fits_along : (a b : ℤ) → a ≡ b → FitsSigned w128 a → FitsSigned w128 b
fits_along a b e = subst (FitsSigned w128) e

-- twice the left factor, and the right one
pub twofold_left : (x y twice other : ℤ) → twice ≡ x *ℤ pos 2 → other ≡ y → (FitsSigned w128 (pos 2 *ℤ (x *ℤ y)) → ⊥) → IsTwofoldOf x y twice other
twofold_left x y twice other e f leaves = record {
  factors = inl (e ∙ *ℤ_comm x (pos 2), f);
  leaves = λ fits. leaves (fits_along _ _ (ap (λ (t : ℤ). t *ℤ other) e ∙ ap (λ (t : ℤ). (x *ℤ pos 2) *ℤ t) f ∙ twice_left x y) fits);
}

-- twice the right factor, and the left one
pub twofold_right : (x y twice other : ℤ) → twice ≡ y *ℤ pos 2 → other ≡ x → (FitsSigned w128 (pos 2 *ℤ (x *ℤ y)) → ⊥) → IsTwofoldOf x y twice other
twofold_right x y twice other e f leaves = record {
  factors = inr (e ∙ *ℤ_comm y (pos 2), f);
  leaves = λ fits. leaves (fits_along _ _ (ap (λ (t : ℤ). t *ℤ other) e ∙ ap (λ (t : ℤ). (y *ℤ pos 2) *ℤ t) f ∙ twice_right x y) fits);
}

-- where the difference of two numbers leaves 128 bits, so does that of two products that they are
pub leaves_along : (a b c d first second : ℤ) → first ≡ a *ℤ b → second ≡ c *ℤ d → (FitsSigned w128 (first -ℤ second) → ⊥)
    → FitsSigned w128 ((a *ℤ b) -ℤ (c *ℤ d)) → ⊥
leaves_along a b c d first second e f leaves = λ fits. leaves (fits_along _ _ (sym (ap (λ (t : ℤ). t -ℤ second) e ∙ ap (λ (t : ℤ). (a *ℤ b) -ℤ t) f)) fits)

-- factors that are wide for four numbers are so for the same numbers
pub wide_along : (a b c d e f g h left right : ℤ) → e ≡ a → f ≡ b → g ≡ c → h ≡ d → IsWideFor e f g h left right → IsWideFor a b c d left right
wide_along a b c d e f g h left right p q r s w =
    subst (λ (t : ℤ). IsWideFor a b c t left right) s (subst (λ (t : ℤ). IsWideFor a b t h left right) r
    (subst (λ (t : ℤ). IsWideFor a t g h left right) q (subst (λ (t : ℤ). IsWideFor t f g h left right) p w)))

lt_or_ge : (m n : ℕ) → (m < n) ⊎ (n ≤ m)
lt_or_ge m n = grind arith

three_times : (m n : ℕ) → 3 ≤ n → 3 * m ≤ m * n
three_times m n h = grind arith

small_factor : (m n h : ℕ) → 0 < h → h ≤ 2 * m → m * n ≤ h → n < 3
small_factor m n h some large fits = ⊎_elim (λ l. l) (λ g. absurd (omega (arith, three_times m n g))) (lt_or_ge n 3)

large_of : (x : ℤ) → (FitsSigned w128 (x *ℤ pos 2) → ⊥) → 2 ^ 127 ≤ 2 * (up x + down x)
large_of x leaves = ⊎_elim (λ l. absurd (leaves (omega (arith, ints, l)))) (λ g. g) (lt_or_ge (2 * (up x + down x)) (2 ^ 127))

size_of_product : (x y : ℤ) → FitsSigned w128 (x *ℤ y) → (up x + down x) * (up y + down y) ≤ 2 ^ 127
size_of_product (pos a) (pos b) fits = omega (arith, ints, fits)
size_of_product (pos a) (negsuc b) fits = omega (arith, ints, fits)
size_of_product (negsuc a) (pos b) fits = omega (arith, ints, fits)
size_of_product (negsuc a) (negsuc b) fits = omega (arith, ints, fits)

-- where a product fits 128 bits and twice its left factor doesn't, twice its right factor does
pub right_twice_fits : (x y : ℤ) → FitsSigned w128 (x *ℤ y) → (FitsSigned w128 (x *ℤ pos 2) → ⊥) → FitsSigned w128 (y *ℤ pos 2)
right_twice_fits x y fits leaves =
    let small = small_factor (up x + down x) (up y + down y) (2 ^ 127) (omega arith) (large_of x leaves) (size_of_product x y fits) in
    omega (arith, ints, small)

times_most : (m n k : ℕ) → m ≤ k → n ≤ k → m * n ≤ k * k
times_most m n k less few = grind arith

-- the product of two numbers of 64 bits fits 128 bits
pub narrow_fits : (x y : ℤ) → FitsSigned w64 x → FitsSigned w64 y → FitsSigned w128 (x *ℤ y)
narrow_fits (pos a) (pos b) f g = let most = times_most a b (2 ^ 63) (omega (arith, ints, f)) (omega (arith, ints, g)) in omega (arith, ints, most)
narrow_fits (pos a) (negsuc b) f g =
    let most = times_most a (b + 1) (2 ^ 63) (omega (arith, ints, f)) (omega (arith, ints, g)) in omega (arith, ints, most)
narrow_fits (negsuc a) (pos b) f g =
    let most = times_most (a + 1) b (2 ^ 63) (omega (arith, ints, f)) (omega (arith, ints, g)) in omega (arith, ints, most)
narrow_fits (negsuc a) (negsuc b) f g =
    let most = times_most (a + 1) (b + 1) (2 ^ 63) (omega (arith, ints, f)) (omega (arith, ints, g)) in omega (arith, ints, most)

-- and of the same numbers
pub narrow_fits_along : (x y a b : ℤ) → FitsSigned w64 x → FitsSigned w64 y → a ≡ x → b ≡ y → FitsSigned w128 (a *ℤ b)
narrow_fits_along x y a b f g p q = fits_along (x *ℤ y) (a *ℤ b) (ap (λ (t : ℤ). t *ℤ y) (sym p) ∙ ap (λ (t : ℤ). a *ℤ t) (sym q)) (narrow_fits x y f g)
