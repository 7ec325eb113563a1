use Rattle.std.proofs.Common.{◌≡◌, ◌-◌, ◌++◌}
use Rattle.wp_classes.specs.Paths.{behind}
use Rattle.wp_rules.proofs.straight.add_behind.Given as goal

abbrev pub invariant-loop-back : goal.invariant-loop-back
invariant-loop-back l = l.points.items ++ behind l.aisle l.to (l.from - l.back) ≡ l.fn.points.items ++ behind l.aisle l.to (l.from - l.to)
