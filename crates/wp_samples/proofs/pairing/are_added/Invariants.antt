use Rattle.std.proofs.Common.{◌≡◌}
use Rattle.wp_samples.proofs.pairing.are_added.Given as goal

abbrev pub invariant-loop-first : goal.invariant-loop-first
invariant-loop-first l = l.pairs.cart ≡ l.initial.pairs.cart
