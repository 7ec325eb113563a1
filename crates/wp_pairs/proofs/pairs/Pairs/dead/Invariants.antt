use Rattle.wp_pairs.specs.Permitted.{AreHeldBelow}
use Rattle.wp_pairs.proofs.pairs.Pairs.dead.Given as goal

abbrev pub invariant-loop-order : goal.invariant-loop-order
invariant-loop-order l = AreHeldBelow l.self l.order
