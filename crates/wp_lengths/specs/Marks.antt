-- Lists of marks, eight to a byte.
use Rattle.std.specs.Prelude.{ℕ, zero, suc, ◌+◌, ◌*◌, ◌/◌, ◌%◌, ◌<◌, ◌≤◌, ◌==◌, Bool, List, [], ◌∷◌, ◌++◌, length}
use Rattle.std.specs.Prelude.{slice_index}
use Rattle.std.specs.Int.{bit_at}

-- the mark at a place: one digit of one byte
unfoldable pub mark_at : List ℕ → ℕ → Bool
mark_at bytes place = bit_at (slice_index bytes (place / 8)) (place % 8) == 1

-- the marks at the places below this one
unfoldable pub marks_below : List ℕ → ℕ → List Bool
marks_below bytes zero = []
marks_below bytes (suc place) = marks_below bytes place ++ mark_at bytes place ∷ []

-- as many bytes as so many marks take
pub record HoldsMarks (bytes : List ℕ) (count : ℕ) : Type 0 where
  pub enough : count ≤ 8 * length bytes
  pub no_more : 8 * length bytes < count + 8
