use Rattle.wp_fast.proofs.Stepping.{last_told}
use Rattle.wp_fast.proofs.laws.last_lengths_are_told.Goals as goal

pub returns : goal.returns
returns c = last_told
