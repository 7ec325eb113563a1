use Rattle.wp_model.proofs.LocationOrder.{location_before, side_before_is}
use Rattle.wp_model.proofs.laws.locations_are_in_order.Goals as goal

pub returns-clause-locations : goal.returns-clause-locations
returns-clause-locations c = location_before

pub returns-clause-sides : goal.returns-clause-sides
returns-clause-sides c = side_before_is
