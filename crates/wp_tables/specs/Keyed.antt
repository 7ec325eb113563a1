-- What a reader has made, beside the key under which its names are hashed.
use Rattle.std.specs.Prelude.{ℕ, List}

-- what was made so far, and the key of its names
pub record Keyed (A : Type 0) : Type 0 where
  pub made : A
  pub key : List ℕ
