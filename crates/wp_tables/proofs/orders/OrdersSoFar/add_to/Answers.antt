use Rattle.std.proofs.Common.{sym, arith}
use Rattle.wp_tables.proofs.Parts.{item_at, order_there, parts_added}
use Rattle.wp_tables.proofs.orders.OrdersSoFar.add_to.Goals as goal

pub index_mut-requires : goal.index_mut-requires
index_mut-requires c =
    let there = order_there c.self.inside.names.keys c.self.inside.lines.items c.args.line.order c.args.order c.self.invariant.0
    (rw (← c.self.view_is) at c.requires) in
    omega (arith, there.1)

pub returns-clause-made : goal.returns-clause-made
returns-clause-made c =
    let names = c.self.inside.names.keys in
    let lines = c.self.inside.lines.items in
    let there = order_there names lines c.args.line.order c.args.order c.self.invariant.0 (rw (← c.self.view_is) at c.requires) in
    let at = item_at lines c.args.order c.index_mut.result.now there.1 c.index_mut.ensures.value in
    let added = parts_added names lines c.args.line c.index_mut.result.now c.push.new.self (rw there.0 at) c.in_ok-push.ensures.items c.self.invariant.0 in
    rw (← c.self.view_is) (sym (rw there.0 at added))
