use Rattle.std.proofs.Common.{arith}
use Rattle.wp_walk.proofs.Places.{behind_more}
use Rattle.wp_walk.proofs.path.Path.then_behind.Goals as goal

pub loop-i-preserved : goal.loop-i-preserved
loop-i-preserved c = rw (c.in_ok-push_last.ensures, c.at.ensures)
    (behind_more c.args.aisle c.args.place c.args.count c.loop-i.i c.loop-i.path _ (omega arith) c.loop-i.invariant)
