use Rattle.std.proofs.Common.{inl, inr}
use Rattle.wp_batch.proofs.Splits.{part_known}
use Rattle.wp_batch.proofs.improve.costing_less.Goals as goal

pub batch_length-requires : goal.batch_length-requires
batch_length-requires c = part_known _ c.args.union c.args.split.left (λ p has. (c.requires.split.divided.of_both p).1 (inl has)) c.requires.known

pub batch_length-requires-2 : goal.batch_length-requires-2
batch_length-requires-2 c = part_known _ c.args.union c.args.split.right (λ p has. (c.requires.split.divided.of_both p).1 (inr has)) c.requires.known
