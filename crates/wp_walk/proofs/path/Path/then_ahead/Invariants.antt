use Rattle.std.proofs.Common.{◌≡◌, ◌++◌}
use Rattle.wp_classes.specs.Paths.{ahead}
use Rattle.wp_walk.proofs.path.Path.then_ahead.Given as goal

abbrev pub invariant-loop-i : goal.invariant-loop-i
invariant-loop-i l = l.path ≡ l.fn.self ++ ahead l.aisle l.place l.i
