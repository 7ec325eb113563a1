use Rattle.std.proofs.Common.{inr}
use Rattle.wp_batch.proofs.Costs.{cheaper_taken, kept_costs_no_more}
use Rattle.wp_batch.proofs.starts.best_of_walks.Goals as goal
use Rattle.wp_batch.proofs.starts.best_of_walks.Goals.{else-total-least, then-total-least}

pub loop-preserved : goal.loop-preserved
loop-preserved c =
    let total = rw c.as_slice-in-loop-2.ensures.value at c.cost_of-total.ensures in elim c.if-total-least.branch [
      | then-total-least w ↦ record {
        batching = rw w.best-is c.in_ok-other.ensures;
        told = rw (w.best-is, w.least-is) total;
        kept = inr (rw w.best-is (cheaper_taken c.args.instance.now.wave.now c.args.batches.now c.loop.best.items c.in_ok-other.other.items c.loop.least
            c.cost_of-total.result c.loop.invariant.told total w.if-total-least.true c.loop.invariant.kept));
      }
      | else-total-least w ↦ record {
        batching = rw w.best-is c.loop.invariant.batching;
        told = rw (w.best-is, w.least-is) c.loop.invariant.told;
        kept = rw w.best-is c.loop.invariant.kept;
      }
    ]

pub returns-clause-no_dearer : goal.returns-clause-no_dearer
returns-clause-no_dearer c =
    let first = rw c.as_slice.ensures.value at c.cost_of-least.ensures in
    let told = rw c.in_ok-best.ensures.items at first in
    kept_costs_no_more c.args.instance.now.wave.now c.args.batches.now c.loop.best.items _ told c.loop.invariant.kept
