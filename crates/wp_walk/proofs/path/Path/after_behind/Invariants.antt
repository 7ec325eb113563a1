use Rattle.std.proofs.Common.{◌≡◌, ◌++◌}
use Rattle.wp_classes.specs.Paths.{behind}
use Rattle.wp_walk.proofs.path.Path.after_behind.Given as goal

abbrev pub invariant-loop-i : goal.invariant-loop-i
invariant-loop-i l = l.path ≡ behind l.aisle l.place l.i ++ l.fn.self
