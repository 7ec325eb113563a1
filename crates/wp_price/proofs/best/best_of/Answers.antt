use Rattle.std.proofs.Common.{◌∙◌}
use Rattle.std.proofs.lemmas.List.{get_or_default}
use Rattle.wp_price.proofs.Bests.{begin_among, next_among, pass_among}
use Rattle.wp_price.proofs.best.best_of.Goals as goal
use Rattle.wp_price.proofs.best.best_of.Goals.{in-Some, in_default}

pub loop-worker-init : goal.loop-worker-init
loop-worker-init c = begin_among c.args.best c.args.found.now

pub loop-worker-preserved : goal.loop-worker-preserved
loop-worker-preserved c = elim c.match-found-worker.branch [
  | in-Some w ↦ rw w.least-is (next_among c.args.best c.args.found.now c.loop-worker.worker c.loop-worker.least w.in-Some.next w.better_of.result
      (λ d. get_or_default c.args.found.now c.loop-worker.worker d _ c.loop-worker-test.true ∙ w.in-Some.is) c.loop-worker.invariant w.better_of.ensures)
  | in_default w ↦ rw w.least-is (pass_among c.args.best c.args.found.now c.loop-worker.worker c.loop-worker.least
      (λ d. get_or_default c.args.found.now c.loop-worker.worker d _ c.loop-worker-test.true ∙ w.in_default.is) c.loop-worker.invariant)
]
