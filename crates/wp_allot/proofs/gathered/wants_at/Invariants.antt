use Rattle.std.proofs.Common.{◌-◌, length}
use Rattle.wp_allot.proofs.GatheredWants.{AreCountedUpTo}
use Rattle.wp_allot.proofs.gathered.wants_at.Given as goal

abbrev pub invariant-loop-end : goal.invariant-loop-end
invariant-loop-end l = AreCountedUpTo l.wants l.start l.article l.units l.end

abbrev pub decreases-loop-end : goal.decreases-loop-end
decreases-loop-end l = length l.wants - l.end
