use Rattle.wp_cert.proofs.BoundsHold.{bounds_hold}
use Rattle.wp_cert.proofs.laws.no_batching_costs_less.Goals as goal

pub returns : goal.returns
returns c = bounds_hold
