use Rattle.std.proofs.Common.{◌∙◌, sym, ap, List, length}
use Rattle.wp_model.specs.Opening.{Order}
use Rattle.wp_floor.proofs.CartFaults.{fits_cart, over_cart, units_found, units_small}
use Rattle.wp_floor.proofs.OrderFaults.{found_within}
use Rattle.wp_floor.proofs.submitting.cart_fault.Goals as goal

pub lines-requires : goal.lines-requires
lines-requires c =
    found_within c.args.opening.now c.args.order.now c.args.number (length c.orders.result.now) c.requires.found
    (ap (λ (orders : List Order). length orders) c.orders.ensures)

pub line_units-units-requires : goal.line_units-units-requires
line_units-units-requires c =
    units_small c.args.opening.now c.args.order.now _ c.requires.read
    (units_found c.args.opening.now c.orders.result.now c.args.order.now c.args.number c.lines.result.now c.orders.ensures c.requires.found c.lines.ensures)

pub returns-then-units-cart : goal.returns-then-units-cart
returns-then-units-cart c =
    over_cart c.args.opening.now c.args.order.now c.in_ok-cart.cart c.line_units-units.result (sym c.in_ok-cart.was ∙ c.units.ensures)
    (c.line_units-units.ensures ∙ units_found c.args.opening.now c.orders.result.now c.args.order.now c.args.number c.lines.result.now c.orders.ensures
    c.requires.found c.lines.ensures) c.if-units-cart.true

pub returns : goal.returns
returns c =
    fits_cart c.args.opening.now c.args.order.now c.in_ok-cart.cart c.line_units-units.result (sym c.in_ok-cart.was ∙ c.units.ensures)
    (c.line_units-units.ensures ∙ units_found c.args.opening.now c.orders.result.now c.args.order.now c.args.number c.lines.result.now c.orders.ensures
    c.requires.found c.lines.ensures) c.if-units-cart.false
