use Rattle.std.proofs.Common.{◌+◌, arith, drop, get_or}
use Rattle.std.proofs.lemmas.List.{at_drop_all, at_drop_more}
use Rattle.wp_model.specs.declared.point.Point.{Point}
use Rattle.wp_rules.specs.Straight.{past_length}
use Rattle.wp_rules.proofs.Adding.{length_none, length_step}
use Rattle.wp_rules.proofs.walk.length_past.Goals as goal

pub loop-stop-preserved : goal.loop-stop-preserved
loop-stop-preserved c =
    let layout = c.args.layout.now in
    let stops = c.args.stops.now in
    let i = c.loop-stop.stop-index in
    let none : Point = record { aisle = 0; slot = 0 } in
    let at : Point = c.loop-stop.at in
    let next = get_or stops i none in record {
      so_far = omega (
        arith,
        c.loop-stop.invariant.so_far,
        c.straight_length-length.ensures.value,
        at_drop_more (past_length layout at) stops i none c.loop-stop-test.true,
        length_step layout at next (drop (i + 1) stops),
      );
      at = c.requires.points i none c.loop-stop-test.true;
      small = omega (arith, c.loop-stop.invariant.small, c.straight_length-length.ensures.small);
    }

pub returns : goal.returns
returns c =
    let layout = c.args.layout.now in
    let at : Point = c.loop-stop.at in
    omega (
      arith,
      c.loop-stop.invariant.so_far,
      at_drop_all (past_length layout at) c.args.stops.now c.loop-stop.stop-index (omega (arith, c.loop-stop-test.false)),
      length_none layout at,
    )
