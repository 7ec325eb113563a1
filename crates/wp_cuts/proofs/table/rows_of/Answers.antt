use Rattle.std.proofs.Common.{arith}
use Rattle.wp_cuts.proofs.TableRows.{rows_more, rows_whole}
use Rattle.wp_cuts.proofs.table.rows_of.Goals as goal

pub loop-order-preserved : goal.loop-order-preserved
loop-order-preserved c = rw c.in_ok-push.ensures.items
    (rows_more c.args.cuts.now.items c.loop-order.rows.items c.row_of.result c.loop-order.order c.loop-order.invariant c.row_of.ensures)

pub returns : goal.returns
returns c = rows_whole c.args.cuts.now.items c.loop-order.rows.items c.loop-order.order c.loop-order.invariant
    (omega (arith, c.loop-order-test.false, c.loop-order.auto.order-end)) c.requires
