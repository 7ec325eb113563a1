use Rattle.std.proofs.Common.{◌≡◌, ◌-◌, ◌+◌, arith, string_bytes}
use Rattle.wp_make.specs.Records.{order_name}
use Rattle.wp_make.specs.Texts.{after_comma}
use Rattle.wp_make.proofs.Growth.{grown, grown_by_each}
use Rattle.wp_make.proofs.desks.print_orders.Goals as goal

pub loop-order-preserved : goal.loop-order-preserved
loop-order-preserved c =
    let order = c.loop-order.order-counter in
    let first = c.args.first in
    grown (λ order. after_comma (order_name order)) first (order - first) order (order + 1 - first) (string_bytes c.args.text.now)
    (string_bytes c.loop-order.text) _ (omega arith) (omega arith) c.loop-order.invariant c.in_ok-write.ensures.bytes

pub returns : goal.returns
returns c =
    let all : c.loop-order.order-counter - c.args.first ≡ c.args.count = omega arith in
    grown_by_each after_comma order_name c.args.first (c.loop-order.order-counter - c.args.first) c.args.count (string_bytes c.args.text.now)
    (string_bytes c.loop-order.text) all c.loop-order.invariant
