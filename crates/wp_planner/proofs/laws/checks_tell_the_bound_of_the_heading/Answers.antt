use Rattle.wp_planner.proofs.Certified.{check_tells}
use Rattle.wp_planner.proofs.laws.checks_tell_the_bound_of_the_heading.Goals as goal

pub returns : goal.returns
returns c = check_tells
