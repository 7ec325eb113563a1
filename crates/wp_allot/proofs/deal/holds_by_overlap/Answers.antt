use Rattle.std.proofs.Common.{refl}
use Rattle.wp_allot.proofs.OverlapHolds.{has_overlaps, nothing_dealt}
use Rattle.wp_allot.proofs.deal.holds_by_overlap.Goals as goal

pub loop-place-init : goal.loop-place-init
loop-place-init c = record { size = refl; dealt = nothing_dealt c.args.book.now.rows c.args.wants.now c.args.except c.args.room.now c.requires.room }

pub returns : goal.returns
returns c =
    has_overlaps c.args.book.now.rows c.args.wants.now c.args.except c.loop-place.place c.args.room.now c.loop-place.room c.sort.new.self
    c.loop-place-test.false c.loop-place.invariant.size c.loop-place.invariant.dealt c.sort.ensures
