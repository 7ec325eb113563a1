use Rattle.std.proofs.Common.{take}
use Rattle.wp_batch.specs.Joins.{TellsCost}
use Rattle.wp_batch.proofs.starts.cost_of.Given as goal

abbrev pub invariant-loop-batch : goal.invariant-loop-batch
invariant-loop-batch l = TellsCost l.wave (take l.batch-index l.batches) l.sum
