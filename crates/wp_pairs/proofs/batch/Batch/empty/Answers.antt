use Rattle.wp_pairs.proofs.Members.{members-zero}
use Rattle.wp_pairs.proofs.batch.Batch.empty.Goals as goal

pub returns : goal.returns
returns c = members-zero
