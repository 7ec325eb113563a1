use Rattle.wp_fast.proofs.Stepping.{carried_told}
use Rattle.wp_fast.proofs.laws.carried_lengths_are_told.Goals as goal

pub returns : goal.returns
returns c = carried_told
