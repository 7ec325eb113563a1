use Rattle.std.proofs.Common.{arith}
use Rattle.wp_tables.proofs.Parts.{parts_length}
use Rattle.wp_tables.proofs.orders.Orders.count.Goals as goal

pub overflow_cast-result : goal.overflow_cast-result
overflow_cast-result c = omega (arith, c.len.ensures.len, c.self.invariant.1)

pub returns : goal.returns
returns c = rw (← c.self.view_is) (omega (arith, c.len.ensures.len, parts_length c.self.inside.names.keys c.self.inside.lines.items c.self.invariant.0))
