-- Sums of what the numbers below one have.
use Rattle.std.proofs.Common.{◌≡◌, ◌≢◌, ◌⊎◌, ⊎_elim, ℕ, zero, suc, ◌<◌, ℤ, pos, ◌+ℤ◌, ◌-ℤ◌, ◌*ℤ◌, ◌≤ℤ◌, arith, refl, ap, sym, ◌∙◌}
use Rattle.std.proofs.Math.IntN.{*ℤ_comm}
use Rattle.std.proofs.lemmas.Int.{ints}
use Rattle.wp_master.proofs.Numbers.{product_of_product, product_of_sum}
use Rattle.wp_master.proofs.Totals.{no_total, same_total}
use Rattle.wp_master.specs.Bases.{total_below}

-- a product with a difference
pub product_of_difference : (a b c : ℤ) → a *ℤ (b -ℤ c) ≡ (a *ℤ b) -ℤ (a *ℤ c)
product_of_difference a b c =
    let back : (b -ℤ c) +ℤ c ≡ b = omega (arith, ints) in
    let whole = product_of_sum a (b -ℤ c) c in
    let same = ap (λ (t : ℤ). a *ℤ t) back in
    omega (arith, ints, whole, same)

-- the first two of three factors are swapped
pub factors_swapped : (a b c : ℤ) → a *ℤ (b *ℤ c) ≡ b *ℤ (a *ℤ c)
factors_swapped a b c = sym (product_of_product a b c) ∙ ap (λ (t : ℤ). t *ℤ c) (*ℤ_comm a b) ∙ product_of_product b a c

low : (n k : ℕ) → k < n → k < suc n
low n k h = omega arith

itself : (n : ℕ) → n < suc n
itself n = omega arith

-- numbers that aren't more than others have no greater sum
pub total_most : (n : ℕ) (f g : ℕ → ℤ) → ((k : ℕ) → k < n → f k ≤ℤ g k) → total_below n f ≤ℤ total_below n g
unfolding total_below
total_most zero f g most = omega (arith, ints)
total_most (suc n) f g most =
    let here = most n (itself n) in
    let before = total_most n f g (λ k h. most k (low n k h)) in
    omega (arith, ints, here, before)

-- a multiple of a sum
pub total_times : (n : ℕ) (a : ℤ) (f : ℕ → ℤ) → a *ℤ total_below n f ≡ total_below n (λ k. a *ℤ f k)
unfolding total_below
total_times zero a f = *ℤ_comm a (pos 0) ∙ omega (arith, ints)
total_times (suc n) a f =
    let before = total_times n a f in
    let here = product_of_sum a (total_below n f) (f n) in
    omega (arith, ints, here, before)

-- the sum of differences
pub total_of_differences : (n : ℕ) (f g : ℕ → ℤ) → total_below n (λ k. f k -ℤ g k) ≡ total_below n f -ℤ total_below n g
unfolding total_below
total_of_differences zero f g = refl
total_of_differences (suc n) f g = let before = total_of_differences n f g in omega (arith, ints, before)

-- the sum of sums
pub total_of_sums : (n : ℕ) (f g : ℕ → ℤ) → total_below n (λ k. f k +ℤ g k) ≡ total_below n f +ℤ total_below n g
unfolding total_below
total_of_sums zero f g = refl
total_of_sums (suc n) f g = let before = total_of_sums n f g in omega (arith, ints, before)

-- sums over two numbers, taken in either order
pub total_swapped : (m n : ℕ) (f : ℕ → ℕ → ℤ)
    → total_below m (λ i. total_below n (λ j. f i j)) ≡ total_below n (λ j. total_below m (λ i. f i j))
unfolding total_below
total_swapped zero n f = sym (no_total n (λ j. pos 0) (λ k h. refl))
total_swapped (suc m) n f =
    let before = total_swapped m n f in
    let both = total_of_sums n (λ j. total_below m (λ i. f i j)) (λ j. f m j) in
    omega (arith, ints, before, both)

here_or_before : (n k : ℕ) → k < suc n → (k ≡ n) ⊎ (k < n)
here_or_before n k h = grind arith

not_last : (n k : ℕ) → k < n → n ≢ k
not_last n k h e = omega (arith, h, e)

not_itself : (n k r : ℕ) → k < n → r ≡ n → k ≢ r
not_itself n k r h e same = omega (arith, h, e, same)

-- numbers that differ at one place alone, by so much there
pub total_changed : (n r : ℕ) (f g : ℕ → ℤ) (more : ℤ) → r < n → ((k : ℕ) → k < n → k ≢ r → f k ≡ g k) → f r ≡ g r +ℤ more
    → total_below n f ≡ total_below n g +ℤ more
unfolding total_below
total_changed zero r f g more within others own = absurd (omega (arith, within))
total_changed (suc n) r f g more within others own = ⊎_elim
    (λ (here : r ≡ n).
    let before = same_total n f g (λ k h. others k (low n k h) (not_itself n k r h here)) in
    let left = ap f here in
    let right = ap g here in
    omega (arith, ints, before, own, left, right))
    (λ (early : r < n).
    let before = total_changed n r f g more early (λ k h. others k (low n k h)) own in
    let last = others n (itself n) (not_last n r early) in
    omega (arith, ints, before, last))
    (here_or_before n r within)
