-- Quotients of numbers that are multiples of the divisor.
use Rattle.std.proofs.Common.{◌≡◌, ℕ, zero, suc, ◌*◌, ◌/◌, ◌<◌, ◌≤◌, ℤ, pos, negsuc, ◌*ℤ◌, ◌<ℤ◌, neg_ℤ, FitsSigned, arith, refl, ap}
use Rattle.std.proofs.Common.{sym, ◌∙◌, of_z, to_z}
use Rattle.std.proofs.Math.Nat.{mul-div_cancel_left}
use Rattle.std.proofs.lemmas.Int.{ints, to_z-of_z}
use Rattle.std.specs.Int.{w128}
use Rattle.std.specs.Int.Signed.{quot_z}

quotient_below : (m d k : ℕ) → 0 < d → m ≡ d * suc k → quot_z (neg_ℤ (pos m)) (pos d) ≡ negsuc k
quotient_below zero d k h e = absurd (omega arith)
quotient_below (suc m) d k h e = ap (λ (t : ℕ). neg_ℤ (pos t)) (ap (λ (t : ℕ). t / d) e ∙ mul-div_cancel_left (suc k) h)

-- a multiple of a divisor above 0, divided by it
pub quotient_is : (d x : ℤ) → pos 0 <ℤ d → quot_z (d *ℤ x) d ≡ x
quotient_is (pos d) (pos k) h = let some : 0 < d = omega (arith, ints) in ap pos (mul-div_cancel_left k some)
quotient_is (pos d) (negsuc k) h = let some : 0 < d = omega (arith, ints) in quotient_below (d * suc k) d k some refl
quotient_is (negsuc d) x h = absurd (omega (arith, ints))

times_some : (d k : ℕ) → 0 < d → k ≤ d * k
times_some d k h = grind arith

-- where a multiple fits 128 bits, so does the other factor
pub factor_fits : (d x : ℤ) → pos 0 <ℤ d → FitsSigned w128 (d *ℤ x) → FitsSigned w128 x
factor_fits (pos d) (pos k) h fits = let some : 0 < d = omega (arith, ints) in omega (arith, ints, fits, times_some d k some)
factor_fits (pos d) (negsuc k) h fits = let some : 0 < d = omega (arith, ints) in omega (arith, ints, fits, times_some d (suc k) some)
factor_fits (negsuc d) x h fits = absurd (omega (arith, ints))

pub above_bits : (d : ℤ) → pos 0 <ℤ d → 0 < of_z w128 d
above_bits (pos n) h = omega (arith, ints)
above_bits (negsuc n) h = absurd (omega (arith, ints))

-- the quotient of two numbers that are read from their bits
pub quotient_of_bits : (v d x : ℤ) → FitsSigned w128 v → FitsSigned w128 d → pos 0 <ℤ d → d *ℤ x ≡ v
    → quot_z (to_z w128 (of_z w128 v)) (to_z w128 (of_z w128 d)) ≡ x
quotient_of_bits v d x f g h e =
    ap (λ (t : ℤ). quot_z t (to_z w128 (of_z w128 d))) (to_z-of_z w128 v f ∙ sym e) ∙ ap (λ (t : ℤ). quot_z (d *ℤ x) t) (to_z-of_z w128 d g) ∙ quotient_is d x h
