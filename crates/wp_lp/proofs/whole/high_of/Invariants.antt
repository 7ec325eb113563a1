use Rattle.std.proofs.Common.{◌≡◌, take}
use Rattle.wp_lp.specs.Parts.{cost_of}
use Rattle.wp_lp.proofs.whole.high_of.Given as goal

abbrev pub invariant-loop-part : goal.invariant-loop-part
invariant-loop-part l = l.cost ≡ cost_of (take l.part-index l.parts)
