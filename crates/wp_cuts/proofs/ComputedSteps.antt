-- The step of a layout is the one that is computed: twice the greatest number that divides the length of each move.
use Rattle.std.proofs.Common.{◌≡◌, ◌≢◌, ◌∙◌, ℕ, zero, suc, ◌*◌, ◌%◌, ◌<◌, ◌≤◌, Bool, true, false, List, [], ◌∷◌, All, arith, refl, ap, sym, inl, inr, ◌⊎◌}
use Rattle.std.proofs.Common.{⊎_elim}
use Rattle.std.specs.Int.{◌∣◌}
use Rattle.std.specs.List.{list_all}
use Rattle.std.specs.Prelude.{◌&&◌, ◌||◌, nat_lt}
use Rattle.std.proofs.lemmas.Bool.{and_parts, cases_eq, cases_lt, false≢true}
use Rattle.std.proofs.lemmas.Bool.Decides.{nat_tests}
use Rattle.std.proofs.Math.Nat.{eq-zero_of_zero-dvd}
use Rattle.std.proofs.lemmas.Nat.Gcd.{dvd_antisymm, dvd_of_mod-eq-zero, le_of_dvd, mod-eq-zero_of_dvd}
use Rattle.wp_model.specs.Warehouse.{Layout}
use Rattle.wp_cuts.specs.Steps.{DividesMoves, IsLayoutStep, divides, divides_moves, greatest_of, layout_step}

-- a layout has one step
pub one_step : (layout : Layout) (one other : ℕ) → IsLayoutStep layout one → IsLayoutStep layout other → one ≡ other
one_step layout one other first second =
    let same = dvd_antisymm (second.greatest first.half first.divides) (first.greatest second.half second.divides) in
    first.twice ∙ (ap (λ (n : ℕ). 2 * n) same ∙ sym second.twice)

both : (a b : Bool) → a ≡ true → b ≡ true → (a && b) ≡ true
both a b p q = rw (p, q) refl

either : (a b : Bool) → (a ≡ true) ⊎ (b ≡ true) → (a || b) ≡ true
either true b is = refl
either false b (inl p) = absurd (false≢true p)
either false b (inr q) = q

second_of : (a b : Bool) → (a || b) ≡ true → a ≡ false → b ≡ true
second_of a b is none = sym (ap (λ (x : Bool). x || b) none) ∙ is

nat_lt_true : (m n : ℕ) → m < n → nat_lt m n ≡ true
nat_lt_true m n low = grind (arith, nat_tests, low)

nat_lt_false : (m n : ℕ) → n ≤ m → nat_lt m n ≡ false
nat_lt_false m n high = grind (arith, nat_tests, high)

first_and_rest : (d x : ℕ) (xs : List ℕ) → d ∣ x → All (λ y. d ∣ y) xs → All (λ y. d ∣ y) (x ∷ xs)
first_and_rest d x xs first rest zero e low = first
first_and_rest d x xs first rest (suc k) e low = rest k e (omega (arith, low))

divides_true : (d n : ℕ) → d ∣ n → divides d n ≡ true
divides_true d n is = let none = mod-eq-zero_of_dvd d is in grind (arith, nat_tests, none)

true_divides : (d n : ℕ) → divides d n ≡ true → d ∣ n
true_divides d n is = let none : n % d ≡ 0 = grind (arith, nat_tests, is) in dvd_of_mod-eq-zero d none

all_divide : (d : ℕ) (xs : List ℕ) → All (λ x. d ∣ x) xs → list_all (divides d) xs ≡ true
all_divide d [] each = refl
all_divide d (x ∷ xs) each = both (divides d x) (list_all (divides d) xs) (divides_true d x (each 0 0 (omega arith)))
    (all_divide d xs (λ k e low. each (suc k) e (omega (arith, low))))

divide_all : (d : ℕ) (xs : List ℕ) → list_all (divides d) xs ≡ true → All (λ x. d ∣ x) xs
divide_all d [] is = λ k e low. absurd (omega (arith, low))
divide_all d (x ∷ xs) is = first_and_rest d x xs (true_divides d x (and_parts _ _ is).0) (divide_all d xs (and_parts _ _ is).1)

-- what divides each move passes the test, and the other way round
moves_pass : (layout : Layout) (d : ℕ) → DividesMoves layout d → divides_moves layout d ≡ true
moves_pass layout d all = both _ _ (divides_true d layout.clearance all.clearance)
    (both _ _ (pitch_passes (cases_lt layout.slots 2)) (all_divide d layout.spacings all.spacings))
  where
    pitch_passes : (layout.slots < 2) ⊎ (2 ≤ layout.slots) → (nat_lt layout.slots 2 || divides d layout.pitch) ≡ true
    pitch_passes (inl few) = either _ _ (inl (nat_lt_true layout.slots 2 few))
    pitch_passes (inr more) = either _ _ (inr (divides_true d layout.pitch (all.pitch more)))

pass_moves : (layout : Layout) (d : ℕ) → divides_moves layout d ≡ true → DividesMoves layout d
pass_moves layout d is =
    let parts = and_parts _ _ is in
    let more = and_parts _ _ parts.1 in record {
      clearance = true_divides d layout.clearance parts.0;
      pitch = λ many. true_divides d layout.pitch (second_of _ _ more.0 (nat_lt_false layout.slots 2 many));
      spacings = divide_all d layout.spacings more.1;
    }

-- the greatest up to a number is the number, where that passes, or else the greatest below it
greatest_next : (passes : ℕ → Bool) (g most : ℕ) (b : Bool) → passes (suc most) ≡ b → (b ≡ true → suc most ≡ g)
    → (b ≡ false → greatest_of passes most ≡ g) → greatest_of passes (suc most) ≡ g
unfolding greatest_of
greatest_next passes g most true e one rest = rw e (one refl)
greatest_next passes g most false e one rest = rw e (rest refl)

-- where a number passes and all that pass are no more, it is the greatest up to each that is no less
greatest_is : (passes : ℕ → Bool) (g most : ℕ) → passes g ≡ true → 1 ≤ g → ((n : ℕ) → passes n ≡ true → n ≤ g) → g ≤ most → greatest_of passes most ≡ g
greatest_is passes g zero is some none low = absurd (omega (arith, some, low))
greatest_is passes g (suc most) is some none low = greatest_next passes g most (passes (suc most)) refl
    (λ e. let high = none (suc most) e in omega (arith, high, low))
    (λ e. greatest_is passes g most is some none
    (⊎_elim (λ (same : g ≡ suc most). absurd (false≢true (sym e ∙ (ap passes (sym same) ∙ is))))
    (λ (ne : g ≢ suc most). omega (arith, low, ne)) (cases_eq g (suc most))))

-- the step of a layout is the one that is computed
pub step_is_computed : (layout : Layout) (step : ℕ) → 1 ≤ layout.clearance → IsLayoutStep layout step → step ≡ layout_step layout
step_is_computed layout step some is =
    let low = le_of_dvd some is.divides.clearance in
    let none : 1 ≤ is.half = half_some is.half layout.clearance some is.divides.clearance in
    let greatest = greatest_is (divides_moves layout) is.half layout.clearance (moves_pass layout is.half is.divides) none
    (λ n passes. le_of_dvd none (is.greatest n (pass_moves layout n passes))) low in
    is.twice ∙ ap (λ (n : ℕ). 2 * n) (sym greatest)
  where
    half_some : (g n : ℕ) → 1 ≤ n → g ∣ n → 1 ≤ g
    half_some zero n low divides = let none : n ≡ 0 = eq-zero_of_zero-dvd divides in omega (arith, low, none)
    half_some (suc g) n low divides = omega arith
