-- Numbers and the optional lengths that they stand for.
use Rattle.std.proofs.Common.{◌≡◌, ℕ, ◌+◌, ◌-◌, ◌^◌, ◌<◌, ◌==◌, not, Option, Some, None, IfSome, unwrap_or, min}
use Rattle.std.proofs.Common.{arith, refl}
use Rattle.std.specs.Bool.{then_some}
use Rattle.std.proofs.lemmas.Bool.{ne_eqb}
use Rattle.wp_classes.specs.Least.{lesser, sum_of}
use Rattle.wp_fast.specs.declared.row.TheConstants.{NO_LENGTH}
use Rattle.wp_fast.specs.Numbers.{StandsFor}

-- the sum of the numbers for two lengths stands for the sum of both
pub stands_for-sum : (a b : Option ℕ) → IfSome a (λ t. t < 2 ^ 62) → IfSome b (λ t. t < 2 ^ 62)
    → StandsFor (sum_of a b) (min (unwrap_or a NO_LENGTH + unwrap_or b NO_LENGTH) (2 ^ 64 - 1))
stands_for-sum None None near far = record { is = refl; small = tt }
stands_for-sum None (Some n) near far = record { is = omega arith; small = tt }
stands_for-sum (Some m) None near far = record { is = omega arith; small = tt }
stands_for-sum (Some m) (Some n) near far = record { is = omega arith; small = omega arith }

lesser_stands : (a b : Option ℕ) (m n : ℕ) → StandsFor a m → StandsFor b n → StandsFor (lesser a b) (min m n)
lesser_stands None None m n left right = record { is = omega arith; small = tt }
lesser_stands None (Some b) m n left right = record { is = omega arith; small = right.small }
lesser_stands (Some a) None m n left right = record { is = omega arith; small = left.small }
lesser_stands (Some a) (Some b) m n left right = record { is = omega arith; small = omega arith }

-- the lesser of two numbers stands for the lesser length
pub stands_for-lesser : {a b : Option ℕ} {m n : ℕ} → StandsFor a m → StandsFor b n → StandsFor (lesser a b) (min m n)
stands_for-lesser {a} {b} {m} {n} left right = lesser_stands a b m n left right

-- a number that stands for a length tells whether there is one
pub stands_for_told : (length : Option ℕ) (n : ℕ) → StandsFor length n → then_some (not (n == NO_LENGTH)) n ≡ length
stands_for_told None n stands = rw stands.is refl
stands_for_told (Some t) n stands =
    rw (stands.is, ne_eqb t NO_LENGTH (λ e. omega (arith, stands.small))) refl
