use Rattle.std.proofs.Common.{arith}
use Rattle.wp_grouping.proofs.Shapes.{follow_told}
use Rattle.wp_grouping.proofs.shape.may_follow.Goals as goal

pub returns : goal.returns
returns c =
    follow_told c.goes_before.result c.args.most c.args.earlier.now c.args.later.now (omega (arith, c.if-earlier-most.false)) c.goes_before.ensures
