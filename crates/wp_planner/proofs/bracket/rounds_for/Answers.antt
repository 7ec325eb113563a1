use Rattle.std.proofs.Common.{arith}
use Rattle.wp_search.proofs.Searches.{price_above}
use Rattle.wp_planner.proofs.bracket.rounds_for.Goals as goal

pub nonzero_div-result : goal.nonzero_div-result
nonzero_div-result c = omega (arith, c.price_of-price.ensures, price_above c.orders.result c.capacity.result.most)
