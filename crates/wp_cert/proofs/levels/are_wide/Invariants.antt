use Rattle.std.specs.Prelude.{⊤}
use Rattle.wp_cert.proofs.levels.are_wide.Given as goal

abbrev pub invariant-loop-aisle : goal.invariant-loop-aisle
invariant-loop-aisle l = ⊤
