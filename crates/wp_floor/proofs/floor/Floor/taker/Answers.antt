use Rattle.std.proofs.Common.{◌≡◌, ◌∙◌, sym, ap, arith, length, rules, None, Some}
use Rattle.std.proofs.lemmas.Option.{slice_get-get_or}
use Rattle.wp_floor.proofs.OrderFaults.{found_in, found_within}
use Rattle.wp_floor.proofs.OrderTakers.{found_taker, none_in, not_found_taker}
use Rattle.wp_floor.proofs.floor.Floor.taker.Goals as goal

pub returns-in_err-number : goal.returns-in_err-number
returns-in_err-number c =
    let none = none_in c.args.opening.now c.orders.result.now c.args.order.now c.find.result c.orders.ensures c.find.ensures c.in_err-number.was in
    let is : c.from_residual.result ≡ None = search rules in
    is ∙ not_found_taker c.args.opening.now c.args.self.now c.args.order.now c.requires none

pub index-requires : goal.index-requires
index-requires c =
    let opening = c.args.opening.now in
    let found = found_in opening c.orders.result.now c.args.order.now c.find.result c.in_ok-number.number c.orders.ensures c.find.ensures c.in_ok-number.was in
    let within = found_within opening c.args.order.now c.in_ok-number.number (length c.args.self.now.takers.items) found c.requires.takers.count in
    omega (arith, within)

pub returns : goal.returns
returns c =
    let opening = c.args.opening.now in
    let found = found_in opening c.orders.result.now c.args.order.now c.find.result c.in_ok-number.number c.orders.ensures c.find.ensures c.in_ok-number.was in
    let within = found_within opening c.args.order.now c.in_ok-number.number (length c.args.self.now.takers.items) found c.requires.takers.count in
    let there = slice_get-get_or c.args.self.now.takers.items c.in_ok-number.number c.index.result.now within ∙ ap Some (sym c.index.ensures) in
    found_taker opening c.args.self.now c.args.order.now c.in_ok-number.number c.index.result.now c.requires found there
