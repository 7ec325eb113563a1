use Rattle.std.proofs.Common.{arith}
use Rattle.wp_tables.proofs.Parts.{parts_length}
use Rattle.wp_tables.proofs.orders.OrdersSoFar.len.Goals as goal

pub returns : goal.returns
returns c = rw (← c.self.view_is) (omega (arith, c.len.ensures.len, parts_length c.self.inside.names.keys c.self.inside.lines.items c.self.invariant.0))
