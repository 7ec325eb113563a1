use Rattle.std.proofs.Common.{List, ℕ, ap, arith, map, ◌∙◌, sym}
use Rattle.std.proofs.lemmas.List.{take_all}
use Rattle.serde_json.specs.Data.{Data, array}
use Rattle.serde_json.specs.View.{items_of}
use Rattle.serde_json.proofs.Views.{view-Array}
use Rattle.wp_cert.specs.TextData.{number_data}
use Rattle.wp_cert.proofs.TextShown.{item_at, shown_more}
use Rattle.wp_cert.proofs.text.printing.loads_json.Goals as goal

pub loop-order-preserved : goal.loop-order-preserved
loop-order-preserved c =
    let loads = c.args.cart.now.loads in
    let item = item_at loads c.loop-order.order c.load.result 0 c.load.ensures in
    rw c.in_ok-push.ensures.items
    (shown_more number_data _ _ loads c.loop-order.order 0 (omega arith) c.loop-order.invariant (c.from.ensures ∙ ap number_data (sym item)))

pub returns : goal.returns
returns c =
    let loads = c.args.cart.now.loads in
    let all = take_all c.loop-order.order loads (omega (arith, c.orders-order-end.ensures.value)) in
    view-Array c.loop-order.values
    ∙ ap (λ (ds : List Data). array (items_of ds)) (c.loop-order.invariant ∙ ap (λ (xs : List ℕ). map number_data xs) all)
