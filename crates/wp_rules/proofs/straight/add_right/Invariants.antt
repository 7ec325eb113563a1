use Rattle.std.proofs.Common.{◌≡◌, ◌-◌, ◌++◌}
use Rattle.wp_rules.specs.Straight.{rightward}
use Rattle.wp_rules.proofs.straight.add_right.Given as goal

abbrev pub invariant-loop-aisle : goal.invariant-loop-aisle
invariant-loop-aisle l = l.points.items ++ rightward l.aisle l.slot (l.to - l.aisle) ≡ l.fn.points.items ++ rightward l.from l.slot (l.to - l.from)
