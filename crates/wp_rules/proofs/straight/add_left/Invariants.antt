use Rattle.std.proofs.Common.{◌≡◌, ◌-◌, ◌++◌}
use Rattle.wp_rules.specs.Straight.{leftward}
use Rattle.wp_rules.proofs.straight.add_left.Given as goal

abbrev pub invariant-loop-back : goal.invariant-loop-back
invariant-loop-back l = l.points.items ++ leftward l.to l.slot (l.from - l.back) ≡ l.fn.points.items ++ leftward l.to l.slot (l.from - l.to)
