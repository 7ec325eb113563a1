use Rattle.std.proofs.Common.{arith, ◌∙◌}
use Rattle.serde_json.proofs.Views.{view-Array}
use Rattle.wp_cert.proofs.TextOrders.{aisle_shown, order_shown}
use Rattle.wp_cert.proofs.text.printing.order_json.Goals as goal

pub loop-before-preserved : goal.loop-before-preserved
loop-before-preserved c = (
  aisle_shown c.args.layout.now c.args.picks.now.points c.loop-before.before _ _ _ c.slots-slots.ensures.value c.loop-before.invariant.0
      c.in_ok-push_aisle.ensures.values,
  λ some. c.in_ok-push_aisle.ensures.slots,
)

pub returns-clause-value : goal.returns-clause-value
returns-clause-value c =
    view-Array c.loop-before.values
    ∙ order_shown c.args.layout.now c.args.picks.now c.loop-before.before _ (omega (arith, c.aisles-before-end.ensures.value)) c.loop-before.invariant.0
