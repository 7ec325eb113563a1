use Rattle.wp_search.proofs.WholeBatchings.{AreApartBelow}
use Rattle.wp_search.proofs.whole.is_batching.Given as goal

abbrev pub invariant-loop-batch : goal.invariant-loop-batch
invariant-loop-batch l = AreApartBelow l.wave l.fn.capacity.most l.batches l.batch-index l.covered
