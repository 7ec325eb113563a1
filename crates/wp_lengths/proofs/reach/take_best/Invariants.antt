use Rattle.wp_lengths.specs.Reaches.{IsBestBelow}
use Rattle.wp_lengths.proofs.reach.take_best.Given as goal

abbrev pub invariant-loop-next : goal.invariant-loop-next
invariant-loop-next l = IsBestBelow l.pairs l.duals l.taken l.from l.next l.best
