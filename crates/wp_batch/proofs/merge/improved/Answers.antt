use Rattle.wp_batch.proofs.Costs.{no_more_through}
use Rattle.wp_batch.proofs.merge.improved.Goals as goal

pub returns-clause-no_dearer : goal.returns-clause-no_dearer
returns-clause-no_dearer c =
    let moved = rw c.in_ok-better.ensures.items at c.improve.ensures.no_dearer in
    let next = rw c.as_slice.ensures.value at c.in_ok-joined.ensures.no_dearer in
    no_more_through c.args.wave.now c.args.batches.now _ c.in_ok-joined.joined moved next
