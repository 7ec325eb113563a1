use Rattle.std.proofs.Common.{arith}
use Rattle.wp_batch.proofs.Splits.{can_replace}
use Rattle.wp_batch.proofs.walk.make_move.Goals as goal

pub replace-requires-clause-split : goal.replace-requires-clause-split
replace-requires-clause-split c = can_replace _ _ c.args.batches.now.items _ _ c.index.result.now c.index-2.result.now c.union-union.result
    c.in-Some.split (omega arith) (omega arith) c.index.ensures c.index-2.ensures c.union-union.ensures.orders c.in-Some.ensures
