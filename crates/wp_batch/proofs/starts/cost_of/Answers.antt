use Rattle.wp_batch.proofs.Costs.{told_more}
use Rattle.wp_batch.proofs.Gains.{batch_read, known_read}
use Rattle.wp_batch.proofs.starts.cost_of.Goals as goal

pub batch_length-requires : goal.batch_length-requires
batch_length-requires c = known_read c.args.wave.now _ _ _ c.requires c.loop-batch-test.true c.batch-item.is

pub loop-batch-preserved : goal.loop-batch-preserved
loop-batch-preserved c =
    let read = batch_read c.args.batches.now c.loop-batch.batch-index c.batch-item.result c.loop-batch-test.true c.batch-item.is in
    told_more c.args.wave.now c.args.batches.now c.loop-batch.batch-index c.batch-item.result c.loop-batch.sum c.batch_length.result
    c.saturating_add-sum.result c.loop-batch-test.true read c.loop-batch.invariant c.batch_length.ensures.is c.saturating_add-sum.ensures
