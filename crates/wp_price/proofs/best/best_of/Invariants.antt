use Rattle.wp_price.specs.Bests.{IsBestAmong}
use Rattle.wp_price.proofs.best.best_of.Given as goal

abbrev pub invariant-loop-worker : goal.invariant-loop-worker
invariant-loop-worker l = IsBestAmong l.fn.best l.found l.worker l.least
