use Rattle.wp_cuts.proofs.OneEnd.{one_end}
use Rattle.wp_cuts.proofs.laws.visits_have_one_end.Goals as goal

pub returns : goal.returns
returns c = one_end
