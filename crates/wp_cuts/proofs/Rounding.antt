-- Sixtieths that are rounded up to a multiple of a step.
use Rattle.std.proofs.Common.{◌≡◌, ℕ, zero, suc, ◌+◌, ◌*◌, ◌/◌, ◌%◌, ◌<◌, ◌≤◌, ◌↔◌, arith, ⊎_elim}
use Rattle.std.proofs.Math.Nat.{dvd-mul_left, div-mul_cancel, div-add-mod, mod-lt, one-dvd}
use Rattle.std.proofs.lemmas.Bool.{cases_lt}
use Rattle.wp_lengths.specs.Duals.{units_of}
use Rattle.wp_cuts.specs.Steps.{IsRoundedUp}

sixty_times : (step n : ℕ) → 60 * step * n ≡ 60 * (n * step)
sixty_times step n = grind arith

ordered_times : (step n m : ℕ) → n ≤ m → n * step ≤ m * step
ordered_times step n m low = grind (arith, low)

-- so many times the step, where that is enough and no fewer times are
pub times_rounded : (step sixtieths times : ℕ) → sixtieths ≤ 60 * step * times → ((fewer : ℕ) → fewer < times → 60 * step * fewer < sixtieths)
    → IsRoundedUp step sixtieths (times * step)
times_rounded step sixtieths times enough least = record {
  multiple = dvd-mul_left step times;
  enough = omega (arith, enough, sixty_times step times);
  least = λ other divides whole.
      let n = other / step in
      let is : n * step ≡ other = div-mul_cancel step divides in
      ⊎_elim
      (λ (low : n < times). absurd (omega (arith, least n low, sixty_times step n, is, whole)))
      (λ (high : times ≤ n). omega (arith, ordered_times step times n high, is))
      (cases_lt n times);
}

-- that is not much more than the sixtieths
pub times_small : (step sixtieths times : ℕ) → ((fewer : ℕ) → fewer < times → 60 * step * fewer < sixtieths)
    → 60 * (times * step) < sixtieths + 60 * step + 1
times_small step sixtieths zero least = omega arith
times_small step sixtieths (suc n) least = let low = least n (omega arith) in omega (arith, low, sixty_times step n, one_more n step)
  where
    one_more : (n m : ℕ) → suc n * m ≡ n * m + m
    one_more n m = grind arith

-- rounded up to a multiple of 1 they are as many units, rounded up
pub rounded_to_units : (sixtieths bound : ℕ) → IsRoundedUp 1 sixtieths bound ↔ (bound ≡ units_of sixtieths)
rounded_to_units sixtieths bound =
    let up = (sixtieths + 59) / 60 in
    let small : (sixtieths + 59) % 60 < 60 = mod-lt (sixtieths + 59) (omega arith) in
    let whole = div-add-mod (sixtieths + 59) 60 in (
      λ is. let most = is.least up (one-dvd up) (omega (arith, whole, small)) in omega (arith, most, whole, small, is.enough),
      λ is. record {
        multiple = one-dvd bound;
        enough = omega (arith, is, whole, small);
        least = λ other divides enough. omega (arith, is, whole, small, enough);
      },
    )
