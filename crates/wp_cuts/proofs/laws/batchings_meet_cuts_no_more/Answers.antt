use Rattle.wp_cuts.proofs.MetCuts.{batchings_meet_no_more, further_meet_no_less}
use Rattle.wp_cuts.proofs.laws.batchings_meet_cuts_no_more.Goals as goal

pub returns-clause-further : goal.returns-clause-further
returns-clause-further c = further_meet_no_less

pub returns-clause-together : goal.returns-clause-together
returns-clause-together c = batchings_meet_no_more
