use Rattle.std.proofs.Common.{Global, List, Vec, ap, arith, map, sym, ◌∙◌, ◌+◌, ◌++◌}
use Rattle.serde_json.specs.View.{view}
use Rattle.serde_json.specs.declared.value.Value.{Value}
use Rattle.wp_model.specs.declared.point.Point.{Point}
use Rattle.wp_cert.specs.TextData.{point_data}
use Rattle.wp_cert.proofs.TextOrders.{aisle_none, append_none, has_told, slot_passed, slot_shown}
use Rattle.wp_cert.proofs.text.printing.push_aisle.Goals as goal
use Rattle.wp_cert.proofs.text.printing.push_aisle.Goals.{then-has+in_ok-point_json+in_ok-push, else-has}

pub loop-before-init : goal.loop-before-init
loop-before-init c = (
  sym (ap (λ (ps : List Point). map view c.args.values.now.items ++ map point_data ps) (aisle_none c.args.picks.now.points c.args.aisle)
      ∙ append_none (map view c.args.values.now.items)),
  λ some. absurd (omega arith),
)

pub loop-before-preserved : goal.loop-before-preserved
loop-before-preserved c =
    let points = c.args.picks.now.points in
    let point : Point = record { aisle = c.args.aisle; slot = c.loop-before.before + 1 } in
    let told = has_told points point c.has.result c.has.ensures.exact.0 c.has.ensures.exact.1 in
    elim c.if-has.branch [
      | then-has+in_ok-point_json+in_ok-push w ↦ (
        rw (ap (λ (values : Vec Value Global). values.items) w.values-is ∙ w.in_ok-push.ensures.items)
            (slot_shown _ _ _ points c.args.aisle c.loop-before.before (told ∙ w.if-has.true) c.loop-before.invariant.0 w.in_ok-point_json.ensures),
        λ some. c.has.ensures.slots,
      )
      | else-has w ↦ (
        rw (ap (λ (values : Vec Value Global). values.items) w.values-is)
            (slot_passed _ _ points c.args.aisle c.loop-before.before (told ∙ w.if-has.false) c.loop-before.invariant.0),
        λ some. c.has.ensures.slots,
      )
    ]
