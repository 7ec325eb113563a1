use Rattle.std.proofs.Common.{◌≡◌, map, take}
use Rattle.serde_json.specs.View.{view}
use Rattle.wp_cert.specs.TextData.{HaveSlots, order_data}
use Rattle.wp_cert.proofs.text.printing.orders_json.Given as goal

abbrev pub invariant-loop-order : goal.invariant-loop-order
invariant-loop-order l =
    (map view l.values.items ≡ map (order_data l.fn.wave.layout) (take l.order l.fn.wave.orders))
    × HaveSlots l.fn.wave.layout (take l.order l.fn.wave.orders)
