-- Where the bodies of records stand in a file.
use Rattle.std.specs.Prelude.{ℕ, ◌+◌, ◌≤◌, List, length, take, drop}
use Rattle.std.specs.List.{All}
use Rattle.wp_store.specs.declared.bodies.BodySpan.{BodySpan}

-- the bytes of one
abbrev pub body_at : List ℕ → BodySpan → List ℕ
body_at bytes span = take span.length (drop span.place bytes)

-- each lies within the file
abbrev pub LieWithin : List ℕ → List BodySpan → Type 0
LieWithin bytes spans = All (λ span. span.place + span.length ≤ length bytes) spans
