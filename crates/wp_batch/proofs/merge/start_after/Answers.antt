use Rattle.wp_batch.proofs.Costs.{no_more_through}
use Rattle.wp_batch.proofs.merge.start_after.Goals as goal

pub returns-clause-no_dearer : goal.returns-clause-no_dearer
returns-clause-no_dearer c =
    let best = rw c.as_slice.ensures.value at c.in_ok-best.ensures.no_dearer in
    let start = rw c.as_slice-2.ensures.value at c.in_ok-start.ensures.no_dearer in
    (c.in_ok-batches.batches.items, c.in_ok-batches.ensures.savings, no_more_through c.args.wave.now _ _ _ best start)
