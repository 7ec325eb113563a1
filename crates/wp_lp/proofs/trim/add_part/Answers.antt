use Rattle.std.proofs.Common.{arith}
use Rattle.wp_lp.proofs.Trims.{added_part}
use Rattle.wp_lp.proofs.trim.add_part.Goals as goal

pub returns-in_ok-push : goal.returns-in_ok-push
returns-in_ok-push c =
    added_part c.args.part c.args.parts.now.items _ c.in_ok-push.ensures.items (omega (arith, c.if-len-gt0.true, c.len.ensures.count))
