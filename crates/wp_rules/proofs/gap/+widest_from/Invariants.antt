use Rattle.std.proofs.Common.{◌+◌, ◌-◌}
use Rattle.wp_rules.proofs.gap.+widest_from.Given as goal

abbrev pub decreases-widest_from : goal.decreases-widest_from
decreases-widest_from l = l.layout.now.slots + 1 - l.depth
