use Rattle.wp_pairs.proofs.Members.{members_are_batch}
use Rattle.wp_pairs.proofs.Unions.{common_fits, without_one}
use Rattle.wp_pairs.proofs.batch.Batch.without.Goals as goal

pub invariant_of-result : goal.invariant_of-result
invariant_of-result c = common_fits _ _ c.self.invariant

pub returns-clause-orders : goal.returns-clause-orders
returns-clause-orders c = rw (← c.self.view_is) (without_one _ _ c.requires)

pub returns-clause-valid : goal.returns-clause-valid
returns-clause-valid c = members_are_batch _
