use Rattle.std.proofs.Common.{arith}
use Rattle.wp_lengths.proofs.MarkLists.{mark_before}
use Rattle.wp_lengths.proofs.marks.make_room.Goals as goal

pub returns-in_ok-push-clause-same : goal.returns-in_ok-push-clause-same
returns-in_ok-push-clause-same c = λ k low. rw c.in_ok-push.ensures.items
    (mark_before c.args.bytes.now.items 0 k (omega (arith, c.requires.no_more, c.if-count-eq0.true)))
