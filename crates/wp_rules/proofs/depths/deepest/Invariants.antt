use Rattle.std.proofs.Common.{◌≡◌, ◌-◌}
use Rattle.wp_rules.specs.Rules.{deepest_where, is_picked}
use Rattle.wp_rules.proofs.depths.deepest.Given as goal

abbrev pub invariant-loop-deeper : goal.invariant-loop-deeper
invariant-loop-deeper l =
    deepest_where (is_picked l.layout l.picks.points l.aisle) l.layout.slots
    ≡ deepest_where (is_picked l.layout l.picks.points l.aisle) (l.layout.slots - l.deeper)
