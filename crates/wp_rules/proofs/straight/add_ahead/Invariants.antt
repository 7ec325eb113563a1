use Rattle.std.proofs.Common.{◌≡◌, ◌-◌, ◌++◌}
use Rattle.wp_classes.specs.Paths.{ahead}
use Rattle.wp_rules.proofs.straight.add_ahead.Given as goal

abbrev pub invariant-loop-slot : goal.invariant-loop-slot
invariant-loop-slot l = l.points.items ++ ahead l.aisle l.slot (l.to - l.slot) ≡ l.fn.points.items ++ ahead l.aisle l.from (l.to - l.from)
