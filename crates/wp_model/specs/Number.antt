-- Numbers in tables and locations.
use Rattle.std.specs.Prelude.{ℕ, ◌+◌, ◌-◌, ◌*◌, ◌&&◌, Bool, nat_le, nat_lt, List, [], ◌∷◌, length, Option, Some, None}
use Rattle.std.specs.Prelude.{if◌then◌else◌}
use Rattle.std.specs.List.{list_all}
use Rattle.std.specs.Char.{is_ascii_digit}

-- the number that digits write when they follow those of another number
abbrev pub number_after : ℕ → List ℕ → ℕ
number_after n [] = n
number_after n (digit ∷ digits) = number_after (n * 10 + (digit - 48)) digits

-- a text of 1 to `most` digits
abbrev pub is_number : ℕ → List ℕ → Bool
is_number most text = nat_lt 0 (length text) && (nat_le (length text) most && list_all is_ascii_digit text)

-- the number that such a text writes
abbrev pub number_of : ℕ → List ℕ → Option ℕ
number_of most text = if is_number most text then Some (number_after 0 text) else None
