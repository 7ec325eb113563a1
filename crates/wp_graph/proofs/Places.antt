-- Places by the bits of words, one after another.
use Rattle.std.proofs.Common.{◌≡◌, ℕ, zero, suc, ◌+◌, ◌-◌, ◌*◌, ◌%◌, ◌^◌, ◌<◌, ◌≤◌, ◌==◌, Bool, true, false, [], ◌∷◌, ◌++◌, filter, bit_and, arith, refl, ap}
use Rattle.std.proofs.Common.{sym, ◌∙◌, ⊎_elim}
use Rattle.std.specs.Int.{bit_at, bit_not, trailing_zeros, w64}
use Rattle.std.specs.List.{range_with_len}
use Rattle.std.proofs.lemmas.Bool.{cases_eq, eq-eqb, ne_eqb}
use Rattle.std.proofs.lemmas.Nat.{and-not, and_comm, one_shl, pow_below, pow_pos}
use Rattle.std.proofs.lemmas.Nat.Bits.{and_pow, bit_at-trailing_zeros, bit_at-zero, bit_at_clear_other, bit_at_clear_same}
use Rattle.wp_graph.specs.Stretches.{bit_places}

-- two tests that agree on a range keep the same places
pub agreeing : (p q : ℕ → Bool) (a n : ℕ) → ((k : ℕ) → a ≤ k → k < a + n → p k ≡ q k) → filter p (range_with_len a n) ≡ filter q (range_with_len a n)
agreeing p q a zero same = refl
agreeing p q a (suc n) same =
    let here = same a (omega arith) (omega arith) in
    let rest = agreeing p q (a + 1) n (λ k low high. same k (omega arith) (omega arith)) in
    rw (here, rest) refl

-- a range that no place passes
pub none_passes : (p : ℕ → Bool) (a n : ℕ) → ((k : ℕ) → a ≤ k → k < a + n → p k ≡ false) → filter p (range_with_len a n) ≡ []
none_passes p a zero fails = refl
none_passes p a (suc n) fails =
    let here = fails a (omega arith) (omega arith) in
    let rest = none_passes p (a + 1) n (λ k low high. fails k (omega arith) (omega arith)) in
    rw (here, rest) refl

-- a range in two parts
pub range_parts : (a m n : ℕ) → range_with_len a (m + n) ≡ range_with_len a m ++ range_with_len (a + m) n
range_parts a zero n = let z : 0 + n ≡ n = omega arith in let w : a + 0 ≡ a = omega arith in rw (z, w) refl
range_parts a (suc m) n =
    let s : suc m + n ≡ suc (m + n) = omega arith in
    let t : a + 1 + m ≡ a + suc m = omega arith in
    rw s (ap (λ xs. a ∷ xs) (range_parts (a + 1) m n ∙ ap (λ i. range_with_len (a + 1) m ++ range_with_len i n) t))

-- the first place that passes, and the rest by a test that passes the others
pub first_passing : (p q : ℕ → Bool) (a n t : ℕ) → t < n → ((k : ℕ) → k < t → p (a + k) ≡ false) → p (a + t) ≡ true →
    ((k : ℕ) → k ≤ t → q (a + k) ≡ false) → ((k : ℕ) → t < k → k < n → q (a + k) ≡ p (a + k)) →
    filter p (range_with_len a n) ≡ (a + t) ∷ filter q (range_with_len a n)
first_passing p q a zero t within before at cleared same = absurd (omega arith)
first_passing p q a (suc n) zero within before at cleared same =
    let z : a + 0 ≡ a = omega arith in
    let here = rw z at at in
    let gone = rw z at (cleared 0 (omega arith)) in
    let rest = agreeing p q (a + 1) n (λ k low high. let e : a + (k - a) ≡ k = omega arith in sym (rw e at (same (k - a) (omega arith) (omega arith)))) in
    rw (here, gone, z, rest) refl
first_passing p q a (suc n) (suc t) within before at cleared same =
    let z : a + 0 ≡ a = omega arith in
    let skipped = rw z at (before 0 (omega arith)) in
    let gone = rw z at (cleared 0 (omega arith)) in
    let move : (k : ℕ) → a + suc k ≡ a + 1 + k = λ k. omega arith in
    let rest = first_passing p q (a + 1) n t (omega arith)
    (λ k low. rw (move k) at (before (suc k) (omega arith))) (rw (move t) at at)
    (λ k low. rw (move k) at (cleared (suc k) (omega arith))) (λ k low high. rw (move k) at (same (suc k) (omega arith) (omega arith))) in
    rw (skipped, gone, move t) rest

-- a bit of a word, as a test
bit_test_off : (bits place first k : ℕ) → place - first ≡ k → bit_at bits k ≡ 0 → (bit_at bits (place - first) == 1) ≡ false
bit_test_off bits place first k at off = ne_eqb _ _ (λ e. let same : bit_at bits (place - first) ≡ bit_at bits k = ap (λ i. bit_at bits i) at in
    omega (arith, e, off, same))

-- a word without its lowest bit
abbrev pub without_lowest : ℕ → ℕ
without_lowest bits = bit_and bits (bit_not w64 (1 * 2 ^ trailing_zeros w64 bits % 2 ^ 64))

-- a word's places are that of its lowest bit and then those of the others
pub lowest_place : (first bits : ℕ) → 0 < bits → bits < 2 ^ 64
    → bit_places first bits ≡ (first + trailing_zeros w64 bits) ∷ bit_places first (without_lowest bits)
unfolding bit_places
lowest_place first bits some fits =
    let low = bit_at-trailing_zeros w64 bits some fits in
    let t = trailing_zeros w64 bits in
    let off : (k : ℕ) → first + k - first ≡ k = λ k. omega arith in
    first_passing (λ place. bit_at bits (place - first) == 1) (λ place. bit_at (without_lowest bits) (place - first) == 1) first 64 t low.0
    (λ k before. bit_test_off bits (first + k) first k (off k) (low.2 k before))
    (eq-eqb _ _ (ap (λ i. bit_at bits i) (off t) ∙ low.1))
    (λ k upto. ⊎_elim
    (λ (e : k ≡ t). bit_test_off (without_lowest bits) (first + k) first k (off k)
    (ap (λ i. bit_at (without_lowest bits) i) e ∙ bit_at_clear_same w64 bits t low.0))
    (λ (ne : k ≡ t → ⊥). bit_test_off (without_lowest bits) (first + k) first k (off k)
    (bit_at_clear_other w64 bits t low.0 k (omega arith) ne ∙ low.2 k (omega arith)))
    (cases_eq k t))
    (λ k after small. ap (λ b. b == 1) (ap (λ i. bit_at (without_lowest bits) i) (off k)
    ∙ bit_at_clear_other w64 bits t low.0 k (omega arith) (λ e. omega arith) ∙ sym (ap (λ i. bit_at bits i) (off k))))

-- what is left has no further bits
pub lowest_cleared : (bits k : ℕ) → 0 < bits → bits < 2 ^ 64 → k < 64 → bit_at (without_lowest bits) k ≡ 1 → bit_at bits k ≡ 1
lowest_cleared bits k some fits small set =
    let low = bit_at-trailing_zeros w64 bits some fits in
    ⊎_elim
    (λ (e : k ≡ trailing_zeros w64 bits). let clear = ap (λ i. bit_at (without_lowest bits) i) e ∙ bit_at_clear_same w64 bits _ low.0 in
    omega (arith, clear, set))
    (λ ne. sym (bit_at_clear_other w64 bits _ low.0 k small ne) ∙ set)
    (cases_eq k (trailing_zeros w64 bits))

-- and is less
pub lowest_less : (bits : ℕ) → 0 < bits → bits < 2 ^ 64 → without_lowest bits < bits
lowest_less bits some fits =
    let t = trailing_zeros w64 bits in
    let low = bit_at-trailing_zeros w64 bits some fits in
    let one : 1 * 2 ^ t % 2 ^ 64 ≡ 2 ^ t = one_shl t 64 low.0 in
    let below : 2 ^ t < 2 ^ 64 = pow_below t 64 low.0 in
    let parts = and-not 64 (2 ^ t) bits below fits in
    let turned = and_comm (2 ^ 64 - 1 - 2 ^ t) bits in
    let cut = and_comm (2 ^ t) bits ∙ and_pow bits t ∙ ap (λ b. b * 2 ^ t) low.1 in
    let whole : without_lowest bits ≡ bit_and bits (2 ^ 64 - 1 - 2 ^ t) = ap (λ m. bit_and bits (2 ^ 64 - 1 - m)) one in
    omega (arith, pow_pos t, parts, turned, cut, whole)

-- a word without bits has no places
pub no_places : (first bits : ℕ) → bits ≡ 0 → bit_places first bits ≡ []
unfolding bit_places
no_places first bits none =
    none_passes (λ place. bit_at bits (place - first) == 1) first 64
    (λ k low high. bit_test_off bits k first (k - first) refl (ap (λ b. bit_at b (k - first)) none ∙ bit_at-zero (k - first)))
