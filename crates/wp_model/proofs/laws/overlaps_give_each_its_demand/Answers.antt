use Rattle.std.proofs.Common.{arith}
use Rattle.wp_model.proofs.Overlap.{order_gets_demand, row_share}
use Rattle.wp_model.proofs.laws.overlaps_give_each_its_demand.Goals as goal

pub returns-clause-order : goal.returns-clause-order
returns-clause-order c = order_gets_demand

pub returns-clause-row : goal.returns-clause-row
returns-clause-row c demand offer orders row = omega (arith, row_share demand offer orders row)
