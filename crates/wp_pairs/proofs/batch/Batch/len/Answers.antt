use Rattle.wp_pairs.proofs.Members.{members_are_batch, ones_are_members}
use Rattle.wp_pairs.proofs.batch.Batch.len.Goals as goal

pub returns-clause-count : goal.returns-clause-count
returns-clause-count c = rw (← c.self.view_is) (ones_are_members _ c.self.invariant)

pub returns-clause-valid : goal.returns-clause-valid
returns-clause-valid c = rw (← c.self.view_is) (members_are_batch _)
