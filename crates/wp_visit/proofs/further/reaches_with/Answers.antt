use Rattle.std.proofs.Common.{arith, ap, length, length-set, sym, subst, ◌∙◌, ◌+◌}
use Rattle.std.specs.Prelude.{slice_index}
use Rattle.wp_visit.specs.Items.{AreReachesBelow, IsMost}
use Rattle.wp_visit.proofs.Reaches.{more_most, reaches_of_none}
use Rattle.wp_visit.proofs.Later.{most_bounded, most_with}
use Rattle.wp_visit.proofs.further.reaches_with.Goals as goal

pub loop-room-init : goal.loop-room-init
loop-room-init c = record {
  below = subst (AreReachesBelow c.args.given.now.paired.pairs.now c.args.given.now.duals.now c.args.order 1) (sym c.no_reaches-reaches.ensures)
      (reaches_of_none c.args.given.now.paired.pairs.now c.args.given.now.duals.now c.args.order);
  filled = ap length c.no_reaches-reaches.ensures;
}

pub overflow_add-after : goal.overflow_add-after
overflow_add-after c =
    let given = c.args.given.now in
    let low = most_bounded given.paired.pairs.now given.duals.now (c.args.order + 1) c.loop-room.room (slice_index c.args.after.now c.loop-room.room)
    given.bounded given.count (c.requires.after c.loop-room.room (omega (arith, c.loop-room-test.true, c.capacity-room-end.ensures.value))) in
    let dual = given.bounded c.args.order 0 (omega (arith, c.requires.known, given.count)) in
    omega (
      arith,
      low,
      dual,
      c.loop-room-test.true,
      c.capacity-room-end.ensures.value,
      c.capacity-room-end.ensures.valid.most_capacity,
    )

pub loop-room-preserved : goal.loop-room-preserved
loop-room-preserved c = record {
  below = more_most c.args.given.now.paired.pairs.now c.args.given.now.duals.now c.args.order (c.loop-room.room + 1) c.max.result c.loop-room.reaches
      (omega (
        arith,
        c.loop-room.invariant.filled,
        c.loop-room-test.true,
        c.capacity-room-end.ensures.value,
        c.capacity-room-end.ensures.valid.most_capacity,
      ))
      c.loop-room.invariant.below
      (subst (IsMost c.args.given.now.paired.pairs.now c.args.given.now.duals.now c.args.order (c.loop-room.room + 1)) (sym c.max.ensures)
      (most_with c.args.given.now.paired.pairs.now c.args.given.now.duals.now c.args.order c.loop-room.room
      (slice_index c.args.after.now (c.loop-room.room + 1)) (slice_index c.args.after.now c.loop-room.room) c.requires.known c.requires.alone
      (c.requires.after (c.loop-room.room + 1) (omega (arith, c.loop-room-test.true, c.capacity-room-end.ensures.value)))
      (c.requires.after c.loop-room.room (omega (arith, c.loop-room-test.true, c.capacity-room-end.ensures.value)))));
  filled = length-set c.loop-room.reaches (c.loop-room.room + 1) c.max.result ∙ c.loop-room.invariant.filled;
}
