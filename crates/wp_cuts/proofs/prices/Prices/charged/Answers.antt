use Rattle.std.proofs.Common.{arith}
use Rattle.wp_cuts.proofs.KeptParts.{batch_few}
use Rattle.wp_cuts.proofs.prices.Prices.charged.Goals as goal

pub overflow_add-result : goal.overflow_add-result
overflow_add-result c = omega (arith, c.sum_of.ensures.small, c.self.invariant.count, batch_few c.args.batch c.len-size.ensures.valid)
