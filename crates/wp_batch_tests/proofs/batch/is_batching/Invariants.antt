use Rattle.wp_search.proofs.WholeBatchings.{AreApartBelow}
use Rattle.wp_batch_tests.proofs.batch.is_batching.Given as goal

abbrev pub invariant-loop-batch : goal.invariant-loop-batch
invariant-loop-batch l = AreApartBelow l.wave l.capacity l.batches l.batch-index l.covered
