-- Rows of Pascal's triangle, as far as the greatest capacity.
use Rattle.std.proofs.Common.{◌≡◌, ℕ, zero, suc, ◌+◌, ◌^◌, ◌<◌, ◌≤◌, List, [], ◌∷◌, length, get_or, arith, refl, ap, sym, ◌-◌, ◌∙◌}
use Rattle.std.proofs.Common.{⊎_elim, set, ◌≢◌}
use Rattle.std.specs.Prelude.{slice_index}
use Rattle.std.proofs.lemmas.Bool.{cases_eq}
use Rattle.std.proofs.lemmas.List.{get_or-set_other, get_or-set_same}
use Rattle.wp_model.specs.Sums.{sum_below}
use Rattle.std.proofs.Math.Nat.{two-pow-succ}
use Rattle.wp_node.specs.Prices.{IsRow, choose}

-- so many things have no more sets than their second power
pub choose_small : (things taken : ℕ) → choose things taken ≤ 2 ^ things
unfolding choose
choose_small zero zero = omega arith
choose_small (suc things) zero = let more = choose_small things zero in omega (arith, two-pow-succ things, more)
choose_small zero (suc taken) = omega arith
choose_small (suc things) (suc taken) = omega (arith, choose_small things taken, choose_small things (suc taken), two-pow-succ things)

power_grows : (n more : ℕ) → 2 ^ n ≤ 2 ^ (n + more)
power_grows n zero = let e : n + 0 ≡ n = omega arith in omega (arith, ap (λ (k : ℕ). 2 ^ k) e)
power_grows n (suc more) =
    let e : n + suc more ≡ suc (n + more) = omega arith in
    omega (arith, ap (λ (k : ℕ). 2 ^ k) e, two-pow-succ (n + more), power_grows n more)

-- up to 64 things have at most 2 ^ 64 sets
pub entry_small : (things taken : ℕ) → things ≤ 64 → choose things taken ≤ 2 ^ 64
entry_small things taken few =
    let e : things + (64 - things) ≡ 64 = omega (arith, few) in
    omega (arith, choose_small things taken, power_grows things (64 - things), ap (λ (k : ℕ). 2 ^ k) e)

choose_none : (taken : ℕ) → 0 < taken → choose 0 taken ≡ 0
unfolding choose
choose_none zero some = absurd (omega arith)
choose_none (suc taken) some = refl

first_entry : (taken : ℕ) → taken < 9 → slice_index (1 ∷ 0 ∷ 0 ∷ 0 ∷ 0 ∷ 0 ∷ 0 ∷ 0 ∷ 0 ∷ []) taken ≡ choose 0 taken
unfolding choose
first_entry zero low = refl
first_entry (suc zero) low = refl
first_entry (suc (suc zero)) low = refl
first_entry (suc (suc (suc zero))) low = refl
first_entry (suc (suc (suc (suc zero)))) low = refl
first_entry (suc (suc (suc (suc (suc zero))))) low = refl
first_entry (suc (suc (suc (suc (suc (suc zero)))))) low = refl
first_entry (suc (suc (suc (suc (suc (suc (suc zero))))))) low = refl
first_entry (suc (suc (suc (suc (suc (suc (suc (suc zero)))))))) low = refl
first_entry (suc (suc (suc (suc (suc (suc (suc (suc (suc more))))))))) low = absurd (omega arith)

-- the row of no thing
pub first_row_is : IsRow 0 (1 ∷ 0 ∷ 0 ∷ 0 ∷ 0 ∷ 0 ∷ 0 ∷ 0 ∷ 0 ∷ [])
first_row_is = record { count = refl; each = first_entry }

-- no thing is taken in one way
pub choose_zero : (things : ℕ) → choose things 0 ≡ 1
unfolding choose
choose_zero things = refl

-- one thing more: the sets with it and those without it
pub choose_more : (things taken before : ℕ) → taken ≡ before + 1 → choose (things + 1) taken ≡ choose things before + choose things taken
unfolding choose
choose_more things taken before next =
    let e : things + 1 ≡ suc things = omega arith in
    let f : taken ≡ suc before = omega (arith, next) in
    ap (λ (k : ℕ). choose k taken) e ∙ (ap (λ (k : ℕ). choose (suc things) k) f ∙ ap (λ (k : ℕ). choose things before + choose things k) (sym f))

-- the row of one thing more begins with the one way to take none
pub row_begins : (things : ℕ) (next : List ℕ) → IsRow 0 next → (taken : ℕ) → taken < 1 → slice_index next taken ≡ choose (things + 1) taken
row_begins things next is zero low = is.each zero (omega arith) ∙ (choose_zero 0 ∙ sym (choose_zero (things + 1)))
row_begins things next is (suc taken) low = absurd (omega arith)

-- and goes on with the sums of two neighbours
pub row_goes_on : (things : ℕ) (row next : List ℕ) (taken : ℕ) → IsRow things row → length next ≡ 9 → 1 ≤ taken → taken < 9
    → ((k : ℕ) → k < taken → slice_index next k ≡ choose (things + 1) k) → (k : ℕ) → k < taken + 1
    → slice_index (set next taken (slice_index row (taken - 1) + slice_index row taken)) k ≡ choose (things + 1) k
row_goes_on things row next taken is count some within before = λ k low.
    let value = slice_index row (taken - 1) + slice_index row taken in
    ⊎_elim
    (λ (e : k ≡ taken).
    let here : slice_index (set next taken value) k ≡ value = ap (λ (j : ℕ). get_or (set next taken value) j 0) e
    ∙ get_or-set_same next taken value 0 (omega (arith, count, within)) in omega (
      arith,
      here,
      is.each (taken - 1) (omega (arith, within)),
      is.each taken within,
      choose_more things taken (taken - 1) (omega (arith, some)),
      ap (λ (j : ℕ). choose (things + 1) j) e,
    ))
    (λ (ne : k ≢ taken). get_or-set_other next taken k value 0 ne ∙ before k (omega (arith, low, ne))) (cases_eq k taken)

-- one size more
pub more_below : (n : ℕ) (f : ℕ → ℕ) → sum_below (n + 1) f ≡ sum_below n f + f n
more_below n f = let e : n + 1 ≡ suc n = omega arith in ap (λ (k : ℕ). sum_below k f) e
