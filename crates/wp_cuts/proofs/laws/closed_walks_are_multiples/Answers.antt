use Rattle.wp_cuts.proofs.ClosedWalks.{closed_walks_are_multiples}
use Rattle.wp_cuts.proofs.laws.closed_walks_are_multiples.Goals as goal

pub returns : goal.returns
returns c = closed_walks_are_multiples
