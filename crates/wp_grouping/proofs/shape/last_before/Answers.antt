use Rattle.std.proofs.Common.{sym, subst, arith, List}
use Rattle.wp_grouping.proofs.Shapes.{none_more}
use Rattle.wp_waves.proofs.KeptWaves.{kept_at}
use Rattle.wp_waves.specs.Filling.{waves_kept}
use Rattle.wp_waves.specs.Waves.{AreOfOneGroup}
use Rattle.wp_waves.specs.declared.open_orders.OpenOrder.{OpenOrder}
use Rattle.wp_grouping.proofs.shape.last_before.Goals as goal

pub loop-place-preserved : goal.loop-place-preserved
loop-place-preserved c =
    let waves = c.args.waves.now in
    let wave = c.args.wave.now in
    let other = c.index-waves-place.result.items in
    let there = kept_at waves _ c.index-waves-place.result (omega arith) c.index-waves-place.is in
    record {
      none = none_more (waves_kept waves) c.loop-place.place _ c.args.end wave other (omega arith) c.loop-place.invariant.none there
          (λ both. c.if-are_of_one_group.ensures (subst (λ (w : List OpenOrder). AreOfOneGroup w wave) (sym c.deref.ensures.value) both));
      within = omega arith;
    }
