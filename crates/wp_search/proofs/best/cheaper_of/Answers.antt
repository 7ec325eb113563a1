use Rattle.std.proofs.Common.{arith}
use Rattle.wp_batch.proofs.Costs.{one_cost}
use Rattle.wp_search.proofs.best.cheaper_of.Goals as goal

pub returns-then-next-best-clause-no_dearer : goal.returns-then-next-best-clause-no_dearer
returns-then-next-best-clause-no_dearer c = rw c.in-Some.is (λ cost is. omega (
  arith,
  one_cost c.args.wave.now c.in-Some.batching
      c.best_of-next.result.cost cost (rw c.best_of-next.ensures.same at c.best_of-next.ensures.best.cost) is,
))

pub returns-else-next-best-clause-no_dearer : goal.returns-else-next-best-clause-no_dearer
returns-else-next-best-clause-no_dearer c = rw c.in-Some.is (λ cost is. omega (
  arith,
  c.if-next-best.false,
  one_cost c.args.wave.now c.in-Some.batching
      c.best_of-next.result.cost cost (rw c.best_of-next.ensures.same at c.best_of-next.ensures.best.cost) is,
))
