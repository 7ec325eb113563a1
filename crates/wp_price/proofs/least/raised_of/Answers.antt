use Rattle.std.proofs.Common.{arith}
use Rattle.wp_price.proofs.Children.{place_small}
use Rattle.wp_price.proofs.least.raised_of.Goals as goal

pub overflow_sub-result : goal.overflow_sub-result
overflow_sub-result c = omega (arith, place_small c.args.visit.now c.args.place.now c.requires.duals c.requires.at)

pub returns : goal.returns
returns c = record {
  total = c.length_of.result;
  long = c.length_of.ensures.is;
  is = omega (arith, c.requires.at.sum, place_small c.args.visit.now c.args.place.now c.requires.duals c.requires.at);
}
