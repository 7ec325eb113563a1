use Rattle.std.proofs.Common.{List, [], ap, arith, map, subst, ◌∙◌}
use Rattle.std.proofs.lemmas.List.{take_all}
use Rattle.std.proofs.lemmas.List.Elements.{All-more}
use Rattle.serde_json.specs.Data.{Data, array}
use Rattle.serde_json.specs.View.{items_of}
use Rattle.serde_json.proofs.Views.{view-Array}
use Rattle.wp_graph.specs.PickSets.{AreSlots, PickSet}
use Rattle.wp_cert.specs.TextData.{HaveSlots, order_data}
use Rattle.wp_cert.proofs.TextOrders.{orders_shown}
use Rattle.wp_cert.proofs.TextShown.{shown_more}
use Rattle.wp_cert.proofs.text.printing.orders_json.Goals as goal

pub loop-order-preserved : goal.loop-order-preserved
loop-order-preserved c =
    let wave = c.args.wave.now in
    let none : PickSet = record { layout = wave.layout; points = [] } in (
      rw c.in_ok-push.ensures.items (shown_more (order_data wave.layout) _ _ wave.orders c.loop-order.order none (omega arith) c.loop-order.invariant.0
          c.in_ok-wave_order_json.ensures.value),
      All-more (λ (picks : PickSet). AreSlots wave.layout picks.points) wave.orders c.loop-order.order none (omega arith) c.loop-order.invariant.1
          c.in_ok-wave_order_json.ensures.slots,
    )

pub returns-clause-value : goal.returns-clause-value
returns-clause-value c =
    let wave = c.args.wave.now in
    let all = take_all c.loop-order.order wave.orders (omega (arith, c.orders-order-end.ensures.value)) in
    view-Array c.loop-order.values
    ∙ ap (λ (ds : List Data). array (items_of ds))
    (c.loop-order.invariant.0 ∙ ap (λ (orders : List PickSet). map (order_data wave.layout) orders) all ∙ orders_shown wave.layout wave.orders)

pub returns-clause-slots : goal.returns-clause-slots
returns-clause-slots c =
    let wave = c.args.wave.now in
    let all = take_all c.loop-order.order wave.orders (omega (arith, c.orders-order-end.ensures.value)) in
    subst (λ (orders : List PickSet). HaveSlots wave.layout orders) all c.loop-order.invariant.1
