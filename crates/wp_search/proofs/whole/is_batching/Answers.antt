use Rattle.std.proofs.Common.{arith, subst}
use Rattle.wp_pairs.specs.Permitted.{IsPermitted, Pairing}
use Rattle.wp_batch.proofs.Gains.{batch_read}
use Rattle.wp_search.proofs.WholeBatchings.{one_more_apart, whole_batching}
use Rattle.wp_search.proofs.whole.is_batching.Goals as goal

pub loop-batch-preserved : goal.loop-batch-preserved
loop-batch-preserved c =
    let batch = c.batch-item.result in
    let permitted = c.permits.ensures.0 c.if-not-permits.false in
    one_more_apart c.args.wave.now c.args.capacity.most c.args.batches.now c.loop-batch.batch-index c.loop-batch.covered c.union-covered.result batch
    (batch_read c.args.batches.now c.loop-batch.batch-index batch c.loop-batch-test.true c.batch-item.is)
    (subst (λ (pairing : Pairing). IsPermitted pairing batch) c.pairs-pairs.ensures permitted) (c.meets.ensures.none c.if-meets.false)
    c.union-covered.ensures.orders c.loop-batch.invariant

pub returns : goal.returns
returns c = λ all. whole_batching c.args.wave.now c.args.capacity.most c.args.batches.now c.loop-batch.batch-index c.loop-batch.covered (omega arith)
    c.loop-batch.invariant (λ order low. c.has_all.ensures all order (omega (arith, low, c.orders.ensures.value)))
