use Rattle.std.proofs.Common.{◌≡◌}
use Rattle.wp_samples.proofs.picking.all_picked.Given as goal

abbrev pub invariant-loop-at : goal.invariant-loop-at
invariant-loop-at l = l.picks.layout ≡ l.layout
