use Rattle.wp_cuts.proofs.PlainVisits.{plain_visits}
use Rattle.wp_cuts.proofs.laws.plain_visits_are_visits.Goals as goal

pub returns : goal.returns
returns c = plain_visits
