-- Numbers as the journal's words. Leading zeros are read here, and refused where the line is compared.
use Rattle.std.specs.Prelude.{ℕ, ◌+◌, ◌-◌, ◌*◌, ◌^◌, ◌&&◌, nat_lt, List, [], ◌∷◌, Option, Some, None, if◌then◌else◌}
use Rattle.std.specs.Char.{is_ascii_digit}
use Rattle.std.specs.Option.{option_and_then}

-- a number with one more digit, where it has 64 bits
abbrev pub next_whole : ℕ → ℕ → Option ℕ
next_whole n c = if is_ascii_digit c && nat_lt (n * 10 + (c - 48)) (2 ^ 64) then Some (n * 10 + (c - 48)) else None

-- the number that digits write when they follow those of another
abbrev pub whole_after : ℕ → List ℕ → Option ℕ
whole_after n [] = Some n
whole_after n (c ∷ word) = option_and_then (λ m. whole_after m word) (next_whole n c)

-- the number of 64 bits that a word writes
abbrev pub whole_of : List ℕ → Option ℕ
whole_of word = whole_after 0 word

-- a number, where it has 32 bits
abbrev pub if_small : ℕ → Option ℕ
if_small n = if nat_lt n (2 ^ 32) then Some n else None

-- the number of 32 bits that a word writes
abbrev pub small_of : List ℕ → Option ℕ
small_of word = option_and_then if_small (whole_of word)
