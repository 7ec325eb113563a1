use Rattle.std.proofs.Common.{arith}
use Rattle.wp_cuts.proofs.TableRows.{inverses_more, inverses_whole}
use Rattle.wp_cuts.proofs.table.inverses_of.Goals as goal

pub loop-at-preserved : goal.loop-at-preserved
loop-at-preserved c = rw c.in_ok-push.ensures.items
    (inverses_more c.args.cuts.now.items c.loop-at.inverses.items c.loop-at.at c.inverse_of.result c.index.result.now c.loop-at.invariant
    (omega (arith, c.loop-at-test.true, c.len-at-end.ensures)) c.inverse_of.ensures c.index.ensures)

pub returns : goal.returns
returns c = inverses_whole c.args.cuts.now.items c.loop-at.inverses.items c.loop-at.at c.loop-at.invariant
    (omega (arith, c.loop-at-test.false, c.loop-at.auto.at-end, c.len-at-end.ensures))
