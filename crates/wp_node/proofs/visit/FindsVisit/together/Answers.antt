use Rattle.std.proofs.Common.{arith}
use Rattle.wp_node.proofs.visit.FindsVisit.together.Goals as goal

pub loop-part-preserved : goal.loop-part-preserved
loop-part-preserved c =
    let part = c.requires c.loop-part.part-index c.part-item.result (omega (arith, c.loop-part-test.true)) in
    c.keep_found.ensures c.args.self.now.visit.wave c.loop-part.invariant
    (rw c.as_slice.ensures.value (rw c.in-Ok.is at (rw (← c.part-item.is) at part)))
