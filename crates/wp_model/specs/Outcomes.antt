-- An answer that may be a fault, and what comes after it.
use Rattle.std.specs.Prelude.{Result, Ok, Err}

-- a value goes on to what comes next, and a fault is the answer
abbrev pub and_then : {A B E : Type 0} → Result A E → (A → Result B E) → Result B E
and_then (Ok x) next = next x
and_then (Err fault) next = Err fault
