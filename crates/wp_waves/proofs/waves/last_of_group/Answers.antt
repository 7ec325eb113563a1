use Rattle.std.proofs.Common.{◌≡◌, ◌∙◌, sym, ap, true, false, List, arith}
use Rattle.wp_waves.specs.Filling.{waves_kept}
use Rattle.wp_waves.specs.Waves.{is_of_group}
use Rattle.wp_waves.specs.declared.open_orders.OpenOrder.{OpenOrder}
use Rattle.wp_waves.proofs.KeptWaves.{kept_at, none_from}
use Rattle.wp_waves.proofs.waves.last_of_group.Goals as goal

pub loop-place-preserved : goal.loop-place-preserved
loop-place-preserved c =
    let group = c.args.group.now in
    let wave = c.index-waves-place.result.items in
    let there = kept_at c.args.waves.now _ c.index-waves-place.result (omega arith) c.index-waves-place.is in
    let not : is_of_group group wave ≡ false =
    ap (λ (w : List OpenOrder). is_of_group group w) (sym c.deref.ensures.value) ∙ (sym c.is_of_group.ensures ∙ c.if-is_of_group.false) in
    record {
      none = none_from group (waves_kept c.args.waves.now) c.loop-place.place _ wave (omega arith) c.loop-place.invariant.none there not;
      within = omega arith;
    }
