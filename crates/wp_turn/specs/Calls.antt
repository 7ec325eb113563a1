-- Calls and their callers. A call is the number of its caller with the entry that it appended.
use Rattle.std.specs.Prelude.{ℕ, ◌<◌, ◌==◌, cond, List, [], ◌∷◌, ◌++◌}
use Rattle.wp_turn.specs.Weights.{total, only}

-- a number stands in a list: it is there once or more often
abbrev pub IsAmong : ℕ → List ℕ → Type 0
IsAmong n xs = 0 < total (only n) xs

module _ {E : Type 0} where
  -- the entries of calls, in order
  abbrev pub entries_of : List (ℕ × E) → List E
  entries_of [] = []
  entries_of (call ∷ calls) = call.1 ∷ entries_of calls

  -- the entries of one caller's calls, in order
  abbrev pub calls_of : ℕ → List (ℕ × E) → List E
  calls_of caller [] = []
  calls_of caller (call ∷ calls) = cond (call.0 == caller) (call.1 ∷ calls_of caller calls) (calls_of caller calls)

  module _ {T : Type 0} (entries : T → List E) where
    -- the whole list: the entries at the opening, then those of the calls
    abbrev pub listed : T → List (ℕ × E) → List E
    listed start calls = entries start ++ entries_of calls

    -- the entries at the opening, of a value that may be there
    abbrev pub opened : List T → List E
    opened [] = []
    opened (start ∷ _) = entries start
