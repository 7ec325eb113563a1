-- What a sink took in several calls, one after the other.
use Rattle.std.proofs.Common.{◌≡◌, ap, refl, sym, Result, Ok, Err, ◌+◌, ℕ, List, [], ◌++◌, length, append_assoc, append-nil, length-append, Option, Some, None}
use Rattle.std.proofs.Common.{arith}
use Rattle.std.proofs.Math.Seq.{take-append-add}
use Rattle.std.proofs.lemmas.Grind.{common_steps}
use Rattle.wp_outside.specs.Outside.{Grows, TookPart, TookPrefix}

-- a sink that isn't called took nothing
pub Grows-nothing : (old : Option (List ℕ)) → Grows old old []
Grows-nothing None = refl
Grows-nothing (Some bytes) = ap Some (sym (append-nil bytes))

-- one text and then another are both
pub Grows-append : (old mid new : Option (List ℕ)) (first second : List ℕ) → Grows old mid first → Grows mid new second → Grows old new (first ++ second)
Grows-append None mid new first second one two = rw (two, one) refl
Grows-append (Some bytes) mid new first second one two = rw (two, one) (ap Some (append_assoc bytes first second))

-- nothing is a beginning of each text
pub TookPrefix-nothing : (old : Option (List ℕ)) (text : List ℕ) → TookPrefix old old text
TookPrefix-nothing old text = (0, omega arith, Grows-nothing old)

-- the whole text is a beginning of it
pub TookPrefix-whole : (old new : Option (List ℕ)) (text : List ℕ) → Grows old new text → TookPrefix old new text
TookPrefix-whole old new text whole = (length text, omega arith, grind (arith, common_steps))

-- a beginning of a first text is one of both texts
pub TookPrefix-first : (old new : Option (List ℕ)) (first second : List ℕ) → TookPrefix old new first → TookPrefix old new (first ++ second)
TookPrefix-first old new first second took =
    let within = took.1 in
    (took.0, omega (arith, length-append first second), grind (arith, common_steps))

-- a first text, and then a beginning of a second, is a beginning of both
pub TookPrefix-second : (old mid new : Option (List ℕ)) (first second : List ℕ) → Grows old mid first → TookPrefix mid new second
    → TookPrefix old new (first ++ second)
TookPrefix-second old mid new first second one took =
    (length first + took.0, omega (arith, length-append first second, took.1), rw take-append-add (Grows-append old mid new first _ one took.2))

-- a part of a first text is a part of both texts
pub TookPart-first : (old new : Option (List ℕ)) (first second : List ℕ) → TookPart old new first → TookPart old new (first ++ second)
TookPart-first old new first second took =
    let within = took.1 in
    (took.0, omega (arith, length-append first second), grind (arith, common_steps))

-- a first text, and then a part of a second, is a part of both
pub TookPart-second : (old mid new : Option (List ℕ)) (first second : List ℕ) → Grows old mid first → TookPart mid new second
    → TookPart old new (first ++ second)
TookPart-second old mid new first second one took =
    (length first + took.0, omega (arith, length-append first second, took.1), rw take-append-add (Grows-append old mid new first _ one took.2))

-- an answer isn't an error
pub not_both : {A E : Type 0} (a : A) (e : E) → ◌≡◌ {A = Result A E} (Ok a) (Err e) → ⊥
not_both a e same = cc same
