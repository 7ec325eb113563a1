use Rattle.std.proofs.Common.{◌≡◌, ◌∙◌, sym, subst, ap, ap₂, arith, ℕ, List, length, map, Option, Some}
use Rattle.std.specs.Prelude.{slice_get}
use Rattle.wp_model.specs.History.{state_after}
use Rattle.wp_model.specs.Opening.{Order}
use Rattle.wp_sending.proofs.OpenWithout.{untaken_all, untaken_are_open, untaken_more}
use Rattle.wp_sending.specs.Untaken.{with_untaken}
use Rattle.wp_tables.specs.Orders.{name_of}
use Rattle.wp_waves.specs.OpenFile.{open_without}
use Rattle.wp_waves.specs.OpenOrders.{AreOpenOrders}
use Rattle.wp_sending.proofs.untaken.untaken_orders.Goals as goal

pub loop-number-preserved : goal.loop-number-preserved
loop-number-preserved c =
    let h = c.args.machine.now in
    let waves = (state_after h).waves in
    let orders = c.args.opening.now.orders in
    let name = c.name-order.result in
    untaken_more waves orders c.loop-number.number (open_without waves orders) c.loop-number.listed.items c.add_untaken.new.listed.items name
    (subst (λ (os : List Order). slice_get (map name_of os) c.loop-number.number ≡ Some name) c.orders-orders.ensures c.name-order.ensures)
    c.loop-number.invariant
    (c.in_ok-add_untaken.ensures
    ∙ ap₂ (λ (group : List ℕ) (taker : Option (List ℕ)). with_untaken c.loop-number.listed.items name group taker) c.whole_group-group.ensures c.taker.ensures)

pub returns-clause-listed : goal.returns-clause-listed
returns-clause-listed c =
    untaken_all (state_after c.args.machine.now).waves c.args.opening.now.orders c.loop-number.number
    (open_without (state_after c.args.machine.now).waves c.args.opening.now.orders) c.loop-number.listed.items
    (omega (arith, c.count-number-end.ensures, ap (λ (os : List Order). length os) c.orders-orders.ensures)) c.loop-number.invariant

pub returns-clause-read : goal.returns-clause-read
returns-clause-read c =
    subst (AreOpenOrders c.args.opening.now.orders)
    (sym (untaken_all (state_after c.args.machine.now).waves c.args.opening.now.orders c.loop-number.number
    (open_without (state_after c.args.machine.now).waves c.args.opening.now.orders) c.loop-number.listed.items
    (omega (arith, c.count-number-end.ensures, ap (λ (os : List Order). length os) c.orders-orders.ensures)) c.loop-number.invariant))
    (untaken_are_open (state_after c.args.machine.now).waves c.args.opening.now.orders c.stock-stock.ensures.read.orders.different)
