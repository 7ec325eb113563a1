use Rattle.std.proofs.Common.{◌≡◌, take}
use Rattle.wp_allot.specs.Wants.{units_in}
use Rattle.wp_allot.proofs.gathered.units_wanted.Given as goal

abbrev pub invariant-loop-want : goal.invariant-loop-want
invariant-loop-want l = l.units ≡ units_in (take l.want-index l.wants)
