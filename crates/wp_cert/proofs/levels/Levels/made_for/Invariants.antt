use Rattle.std.specs.Prelude.{⊤}
use Rattle.wp_cert.proofs.levels.Levels.made_for.Given as goal

abbrev pub invariant-loop-lower : goal.invariant-loop-lower
invariant-loop-lower l = ⊤
