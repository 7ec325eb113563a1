-- Numbers that stand for optional lengths in sums.
use Rattle.std.specs.Prelude.{◌≡◌, ℕ, ◌<◌, ◌^◌, Option, IfSome, unwrap_or}
use Rattle.wp_fast.specs.declared.row.TheConstants.{NO_LENGTH}

-- a number stands for a length that may be the sum of two, or for none
pub record StandsFor (length : Option ℕ) (number : ℕ) : Type 0 where
  pub is : number ≡ unwrap_or length NO_LENGTH
  pub small : IfSome length (λ t. t < 2 ^ 63)
