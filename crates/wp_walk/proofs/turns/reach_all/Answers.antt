use Rattle.std.proofs.Common.{arith, sym, ◌∙◌}
use Rattle.wp_walk.proofs.TurnPlaces.{looked_all, looked_no, looked_yes}
use Rattle.wp_walk.proofs.turns.reach_all.Goals as goal
use Rattle.wp_walk.proofs.turns.reach_all.Goals.{else-is_required, then-is_required}

pub loop-place-preserved : goal.loop-place-preserved
loop-place-preserved c = elim c.if-is_required.branch [
  | then-is_required w ↦ rw w.reached-is (record {
    value = rw w.reach-reached.ensures.value (looked_yes c.args.layout.now c.args.picks.now.points c.args.aisle c.loop-place.place c.loop-place.reached
        (sym c.is_required.ensures.value ∙ w.if-is_required.true) c.loop-place.invariant.value);
    slots = λ some. c.is_required.ensures.slots;
    within = w.reach-reached.ensures.within;
  })
  | else-is_required w ↦ rw w.reached-is (record {
    value = looked_no c.args.layout.now c.args.picks.now.points c.args.aisle c.loop-place.place c.loop-place.reached
        (sym c.is_required.ensures.value ∙ w.if-is_required.false) c.loop-place.invariant.value;
    slots = λ some. c.is_required.ensures.slots;
    within = c.loop-place.invariant.within;
  })
]

pub returns-clause-value : goal.returns-clause-value
returns-clause-value c = looked_all c.args.layout.now c.args.picks.now.points c.args.aisle c.loop-place.place c.loop-place.reached
    (omega (arith, c.slots-place-end.ensures.value)) c.loop-place.invariant.value

pub returns-clause-slots : goal.returns-clause-slots
returns-clause-slots c = c.loop-place.invariant.slots (omega (arith, c.slots-place-end.ensures.value))
