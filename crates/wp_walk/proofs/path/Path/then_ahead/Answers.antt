use Rattle.wp_walk.proofs.Places.{ahead_more}
use Rattle.wp_walk.proofs.path.Path.then_ahead.Goals as goal

pub loop-i-preserved : goal.loop-i-preserved
loop-i-preserved c = rw (c.in_ok-push_last.ensures, c.at.ensures, c.loop-i.invariant) (ahead_more c.args.aisle c.args.place c.loop-i.i c.args.self)
