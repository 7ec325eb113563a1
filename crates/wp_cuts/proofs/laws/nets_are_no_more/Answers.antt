use Rattle.wp_cuts.proofs.Nets.{nets_are_no_more, rounded_nets_are_no_more}
use Rattle.wp_cuts.proofs.laws.nets_are_no_more.Goals as goal

pub returns-clause-sixtieths : goal.returns-clause-sixtieths
returns-clause-sixtieths c = nets_are_no_more

pub returns-clause-units : goal.returns-clause-units
returns-clause-units c = rounded_nets_are_no_more
