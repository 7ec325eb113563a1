use Rattle.std.proofs.Common.{◌≡◌, ◌+◌, ◌-◌, ◌++◌}
use Rattle.wp_classes.specs.Paths.{ahead}
use Rattle.wp_walk.proofs.path.Path.after_ahead.Given as goal

abbrev pub invariant-loop-i : goal.invariant-loop-i
invariant-loop-i l = l.path ≡ ahead l.aisle (l.place + (l.count - l.i)) l.i ++ l.fn.self
