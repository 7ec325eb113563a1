use Rattle.wp_cuts.proofs.CountedBatches.{least_batches_hold}
use Rattle.wp_cuts.proofs.laws.batchings_have_the_least_batches.Goals as goal

pub returns : goal.returns
returns c = least_batches_hold
