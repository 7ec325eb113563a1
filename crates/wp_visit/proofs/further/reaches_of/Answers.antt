use Rattle.std.proofs.Common.{arith, ap, ℕ, ◌+◌, ◌<◌, ◌∙◌, length, length-set, refl, subst, sym}
use Rattle.std.proofs.lemmas.List.Elements.{All-weaker}
use Rattle.wp_lengths.specs.Reaches.{HaveMost}
use Rattle.wp_lengths.specs.Visits.{IsLater}
use Rattle.wp_lengths.proofs.Further.{most_of_none}
use Rattle.wp_visit.specs.Items.{AreReachesBelow}
use Rattle.wp_visit.proofs.Reaches.{more_reaches, reaches_of_none, taken_more}
use Rattle.wp_visit.proofs.further.reaches_of.Goals as goal

pub loop-room-init : goal.loop-room-init
loop-room-init c = record {
  below = subst (AreReachesBelow c.args.given.now.paired.pairs.now c.args.given.now.duals.now c.args.from 1) (sym c.no_reaches-reaches.ensures)
      (reaches_of_none c.args.given.now.paired.pairs.now c.args.given.now.duals.now c.args.from);
  have = subst (HaveMost c.args.given.now.paired.pairs.now c.args.given.now.duals.now c.args.from 0) (sym c.empty-taken.ensures)
      (most_of_none c.args.given.now.paired.pairs.now c.args.given.now.duals.now c.args.from);
  filled = ap length c.no_reaches-reaches.ensures;
}

pub sum_in-requires : goal.sum_in-requires
sum_in-requires c =
    let more = taken_more c.args.given.now.paired.pairs.now c.args.given.now.duals.now c.args.given.now.duals.now c.args.from c.loop-room.room
    c.loop-room.taken c.take_best-taken.result refl c.take_best-taken.ensures c.loop-room.invariant.have in
    All-weaker (IsLater c.args.given.now.paired.pairs.now c.args.from) (λ (o : ℕ). o < c.args.given.now.paired.pairs.now.orders) (λ o later. later.known)
    c.take_best-taken.result more.later

pub loop-room-preserved : goal.loop-room-preserved
loop-room-preserved c =
    let more = taken_more c.args.given.now.paired.pairs.now c.args.given.now.duals.now c.args.given.now.duals.now c.args.from c.loop-room.room
    c.loop-room.taken c.take_best-taken.result refl c.take_best-taken.ensures c.loop-room.invariant.have in record {
      below = more_reaches c.args.given.now.paired.pairs.now c.args.given.now.duals.now c.args.from (c.loop-room.room + 1) c.sum_in.result
          c.loop-room.reaches c.take_best-taken.result
          (omega (
            arith,
            c.loop-room.invariant.filled,
            c.loop-room-test.true,
            c.capacity-room-end.ensures.value,
            c.capacity-room-end.ensures.valid.most_capacity,
          ))
          c.loop-room.invariant.below more c.sum_in.ensures.is;
      have = more;
      filled = length-set c.loop-room.reaches (c.loop-room.room + 1) c.sum_in.result ∙ c.loop-room.invariant.filled;
    }
