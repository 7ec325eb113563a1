-- Lists of numbers are compared by weight: two lists with the same weight under every function have the same numbers,
-- as many times each.
use Rattle.std.specs.Prelude.{ℕ, zero, suc, ◌+◌, ◌==◌, cond, List, [], ◌∷◌}

-- the weight of a list
abbrev pub total : {A : Type 0} → (A → ℕ) → List A → ℕ
total f [] = 0
total f (x ∷ xs) = f x + total f xs

-- the weight of the numbers below n
abbrev pub below : (ℕ → ℕ) → ℕ → ℕ
below f zero = 0
below f (suc n) = below f n + f n

-- the weight of the numbers from 1 to n
abbrev pub up_to : (ℕ → ℕ) → ℕ → ℕ
up_to f zero = 0
up_to f (suc n) = up_to f n + f (suc n)

-- the weight that counts one number alone
abbrev pub only : ℕ → ℕ → ℕ
only n x = cond (x == n) 1 0
