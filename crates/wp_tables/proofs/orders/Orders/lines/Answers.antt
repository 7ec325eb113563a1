use Rattle.std.proofs.Common.{arith}
use Rattle.wp_tables.proofs.Parts.{item_at, lines_at, parts_length}
use Rattle.wp_tables.proofs.orders.Orders.lines.Goals as goal

pub index-requires : goal.index-requires
index-requires c =
    let within = rw (← c.self.view_is, parts_length c.self.inside.names.keys c.self.inside.lines.items c.self.invariant.0) at c.requires in
    omega (arith, within, c.self.invariant.0)

pub returns : goal.returns
returns c =
    let names = c.self.inside.names.keys in
    let lines = c.self.inside.lines.items in
    let within = rw (← c.self.view_is, parts_length names lines c.self.invariant.0) at c.requires in
    let at = item_at lines c.args.i c.index.result.now (omega (arith, within, c.self.invariant.0)) c.index.ensures in
    rw (← c.self.view_is, c.as_slice.ensures.value) (lines_at names lines c.args.i c.index.result.now c.self.invariant.0 at)
