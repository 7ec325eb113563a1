use Rattle.wp_cert.proofs.OneOutcome.{whole_agree, whole_not_broken}
use Rattle.wp_cert.proofs.laws.right_trees_are_told_exactly.Goals as goal

pub returns-clause-unbroken : goal.returns-clause-unbroken
returns-clause-unbroken c = whole_not_broken

pub returns-clause-one_bound : goal.returns-clause-one_bound
returns-clause-one_bound c = whole_agree
