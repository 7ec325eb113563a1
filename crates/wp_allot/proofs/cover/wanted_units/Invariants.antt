use Rattle.std.proofs.Common.{◌≡◌, take}
use Rattle.wp_allot.specs.Wants.{wanted_of}
use Rattle.wp_allot.proofs.cover.wanted_units.Given as goal

abbrev pub invariant-loop-want : goal.invariant-loop-want
invariant-loop-want l = l.units ≡ wanted_of (take l.want-index l.wants) l.article
