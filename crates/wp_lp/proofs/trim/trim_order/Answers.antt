use Rattle.wp_lp.proofs.Trims.{more_trimmed}
use Rattle.wp_lp.proofs.trim.trim_order.Goals as goal

pub loop-part-preserved : goal.loop-part-preserved
loop-part-preserved c =
    let before = c.loop-part.invariant in
    let more = more_trimmed c.args.parts.now c.loop-part.part-index c.args.order c.args.whole c.loop-part.left c.in_ok-left.left c.part-item.result _ _
    c.loop-part-test.true c.part-item.is c.in_ok-left.ensures.trimmed before.others before.own before.spent before.cost in
    record { others = more.others; own = more.own; spent = more.spent; cost = more.cost; each = c.in_ok-left.ensures.each before.each }
