use Rattle.std.proofs.Common.{◌≡◌, ◌≢◌, List, ℕ, arith, subst, sym, ⊎_elim}
use Rattle.std.proofs.lemmas.Bool.{cases_eq}
use Rattle.wp_model.specs.declared.point.Point.{Point}
use Rattle.wp_model.specs.Warehouse.{Layout}
use Rattle.wp_graph.specs.PickSets.{AreSlots}
use Rattle.wp_lengths.specs.Waves.{picks_of}
use Rattle.wp_cert.proofs.HaveLengths.{each_has_length}
use Rattle.wp_cert.proofs.own.each_batch_has_a_length.Goals as goal

pub loop-order-preserved : goal.loop-order-preserved
loop-order-preserved c = λ lower low.
    let wave = c.args.wave.now in
    let here = subst (λ (points : List Point). AreSlots wave.layout points) c.order.ensures.points
    (subst (λ (layout : Layout). AreSlots layout c.order.result.now.points) c.order.ensures.layout c.needed_below.ensures.slots) in
    ⊎_elim (λ (e : lower ≡ c.loop-order.order). subst (λ (order : ℕ). AreSlots wave.layout (picks_of wave order)) (sym e) here)
    (λ (ne : lower ≢ c.loop-order.order). c.loop-order.invariant lower (omega (arith, low, ne))) (cases_eq lower c.loop-order.order)

pub returns : goal.returns
returns c = each_has_length c.args.wave.now (omega (arith, c.orders-order-end.ensures.valid.some))
    (λ order low. c.loop-order.invariant order (omega (arith, low, c.loop-order-test.false, c.orders-order-end.ensures.value)))
