use Rattle.std.proofs.Common.{arith}
use Rattle.std.proofs.Math.Nat.{mul-le-mul_left}
use Rattle.wp_node.proofs.price.price_of.Goals as goal

pub overflow_mul-result : goal.overflow_mul-result
overflow_mul-result c = omega (arith, mul-le-mul_left c.from.result c.sets_of.ensures.small, c.from.ensures, c.requires)
