use Rattle.std.proofs.Common.{arith, refl}
use Rattle.wp_allot.proofs.GatheredWants.{border_first}
use Rattle.wp_allot.proofs.OverlapHolds.{has_overlaps, nothing_dealt}
use Rattle.wp_allot.proofs.gathered.holds_by_overlap.Goals as goal

pub loop-start-init : goal.loop-start-init
loop-start-init c = record {
  size = refl;
  dealt = nothing_dealt c.args.book.now.rows c.args.wants.now c.args.except c.args.room.now c.requires.room;
  border = border_first c.args.wants.now;
  within = omega arith;
}

pub returns : goal.returns
returns c =
    has_overlaps c.args.book.now.rows c.args.wants.now c.args.except c.loop-start.start c.args.room.now c.loop-start.room c.sort.new.self
    (omega arith) c.loop-start.invariant.size c.loop-start.invariant.dealt c.sort.ensures
