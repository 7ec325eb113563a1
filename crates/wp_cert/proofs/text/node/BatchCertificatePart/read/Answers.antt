use Rattle.std.proofs.Common.{◌≡◌, None, arith, rules, sym, ◌∙◌}
use Rattle.serde_json.specs.View.{view}
use Rattle.wp_cert.specs.Text.{batch_said}
use Rattle.wp_cert.proofs.TextBatches.{batch_more, batch_none, one_more_read, orders_more}
use Rattle.wp_cert.proofs.TextLists.{ok_or-err, ok_or-ok}
use Rattle.wp_cert.proofs.text.node.BatchCertificatePart.read.Goals as goal

pub returns-in_err-order-clause-bad : goal.returns-in_err-order-clause-bad
returns-in_err-order-clause-bad c =
    let none = sym c.order_in.ensures.value ∙ ok_or-err _ _ _ (sym c.ok_or-in-loop-item.ensures.value ∙ c.in_err-order.was) in
    let kept = c.loop-item.invariant in
    let said : batch_said (view c.args.value.now) ≡ None =
    batch_none _ _ _ _ _ _ kept.0 (omega arith) c.item-item.is kept.1 kept.2.end none in
    search rules

pub loop-item-preserved : goal.loop-item-preserved
loop-item-preserved c =
    let found = ok_or-ok _ _ _ (sym c.ok_or-in-loop-item.ensures.value ∙ c.in_ok-order.was) in
    let some = sym c.order_in.ensures.value ∙ found in
    let kept = c.loop-item.invariant in
    let range = (rw found at c.order_in.ensures.range) in
    let grown = batch_more _ _ _ _ kept.2.ascending kept.2.below range.0 c.with-batch.ensures.valid c.with-batch.ensures.orders in (
      kept.0,
      rw grown (orders_more 0 _ _ _ _ _ (omega arith) c.item-item.is kept.1 (rw kept.2.end at some)),
      rw grown (one_more_read _ _ _ kept.2 range.0 range.1),
    )
