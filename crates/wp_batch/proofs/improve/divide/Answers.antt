use Rattle.std.proofs.Common.{arith}
use Rattle.wp_batch.proofs.Splits.{divided, undivided}
use Rattle.wp_batch.proofs.improve.divide.Goals as goal

pub loop-at-init : goal.loop-at-init
loop-at-init c = undivided _ _ _ c.empty.ensures c.empty-2.ensures

pub loop-at-preserved : goal.loop-at-preserved
loop-at-preserved c = c.moved-halves.ensures c.args.union c.loop-at.invariant

pub returns : goal.returns
returns c = divided c.args.union c.loop-at.halves.rest _ (omega (arith, c.len.ensures.count, c.if-len-gt0.false)) c.loop-at.invariant
