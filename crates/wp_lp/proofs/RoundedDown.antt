-- Numbers over a denominator in sixtieths, rounded down.
use Rattle.std.proofs.Common.{◌≡◌, ⊎_elim, ◌⊎◌, ℕ, ◌+◌, ◌*◌, ◌/◌, ◌<◌, ◌≤◌, List, [], ◌∷◌, ◌++◌, length, ℤ, pos, arith, ap, sym, subst}
use Rattle.std.specs.Prelude.{slice_index}
use Rattle.std.proofs.lemmas.Nat.{div-add-mod', mod_below}
use Rattle.std.proofs.lemmas.Int.{ints}
use Rattle.std.proofs.lemmas.List.{get_or_append_left, get_or_push}
use Rattle.wp_lp.specs.Runs.{IsSixtieths}

-- a quotient of natural numbers, times the divisor, and one more time
pub rounded : (n d r : ℕ) → 0 < d → r ≡ n / d → (r * d ≤ n) × (n < (r + 1) * d)
rounded n d r some is =
    let whole = div-add-mod' n d in
    let small = mod_below n d some in
    let product = ap (λ (q : ℕ). q * d) is in
    (omega (arith, whole, product), omega (arith, whole, product, small))

-- a quotient of natural numbers is the sixtieths of a whole number over another
pub sixtieths_are : (value denominator : ℤ) (v d r : ℕ) → pos v ≡ value → pos d ≡ denominator → 0 < d → r ≡ 60 * v / d → IsSixtieths value denominator r
sixtieths_are value denominator v d r e f some is =
    let round = rounded (60 * v) d r some is in
    subst (λ (x : ℤ). IsSixtieths x denominator r) e (subst (λ (y : ℤ). IsSixtieths (pos v) y r) f (record {
      reached = omega (arith, ints, round.0);
      next = omega (arith, ints, round.1);
    }))

here_or_before : (n k : ℕ) → k < n + 1 → (k ≡ n) ⊎ (k < n)
here_or_before n k h = grind arith

-- what holds at each place of a list holds with one more number behind it
pub each_more : (P : ℕ → ℕ → Type 0) (xs ys : List ℕ) (n x : ℕ) → length xs ≡ n → ys ≡ xs ++ x ∷ [] → ((k : ℕ) → k < n → P k (slice_index xs k)) → P n x
    → (k : ℕ) → k < n + 1 → P k (slice_index ys k)
each_more P xs ys n x count e before this k low = subst (λ (zs : List ℕ). P k (slice_index zs k)) (sym e) (⊎_elim
    (λ (same : k ≡ n). subst (λ (j : ℕ). P j (slice_index (xs ++ x ∷ []) j)) (sym same)
    (subst (P n) (sym (get_or_push xs x 0 n count)) this))
    (λ (early : k < n). subst (P k) (sym (get_or_append_left xs (x ∷ []) 0 k (omega (arith, early, count)))) (before k early))
    (here_or_before n k low))
