use Rattle.std.proofs.Common.{◌≡◌}
use Rattle.std.specs.Prelude.{vec_len}
use Rattle.wp_cases.proofs.given.copies_of.Given as goal

-- there is a content for each name so far
abbrev pub invariant-loop-name : goal.invariant-loop-name
invariant-loop-name g l = vec_len l.contents ≡ l.name-index
