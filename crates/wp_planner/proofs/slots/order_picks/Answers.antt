use Rattle.wp_planner.proofs.OrderPicks.{one_more_read}
use Rattle.wp_planner.proofs.slots.order_picks.Goals as goal

pub loop-hold-preserved : goal.loop-hold-preserved
loop-hold-preserved c =
    one_more_read _ _ _ _ _ _ _ _ _ c.add.new.self _ c.loop-hold-test.true c.requires.within c.slot_of-slot.ensures c.index_mut.ensures.value
    c.add.ensures.layout c.add.ensures.points c.loop-hold.invariant
