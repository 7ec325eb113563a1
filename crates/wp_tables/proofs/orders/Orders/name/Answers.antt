use Rattle.wp_tables.proofs.Parts.{item_at, name_at, parts_length}
use Rattle.wp_tables.proofs.orders.Orders.name.Goals as goal

pub bounds-as_slice-i : goal.bounds-as_slice-i
bounds-as_slice-i c =
    rw c.as_slice.ensures.keys (rw (← c.self.view_is, parts_length c.self.inside.names.keys c.self.inside.lines.items c.self.invariant.0) at c.requires)

pub returns : goal.returns
returns c =
    let names = c.self.inside.names.keys in
    let lines = c.self.inside.lines.items in
    let within = rw (← c.self.view_is, parts_length names lines c.self.invariant.0) at c.requires in
    let at = item_at names c.args.i c.index-as_slice-i.result within (rw c.as_slice.ensures.keys at c.index-as_slice-i.is) in
    rw (← c.self.view_is) (name_at names lines c.args.i c.index-as_slice-i.result c.self.invariant.0 at)
