use Rattle.std.proofs.Common.{◌∙◌, sym, ap, arith, get_or, length, List, map, None, ℕ, Option, option_map, Some}
use Rattle.std.proofs.lemmas.List.{length-map}
use Rattle.std.proofs.lemmas.Option.{get_or_from_slice_get, slice_get-get_or, slice_get-map}
use Rattle.wp_floor.specs.Floor.{order_number}
use Rattle.wp_floor.proofs.submitting.first_order_fault.Goals as goal

pub bounds-numbers-place : goal.bounds-numbers-place
bounds-numbers-place c =
    omega (arith, ap length c.requires.numbered, length-map c.args.orders.now (order_number c.args.opening.now), c.loop-place-test.true)

pub order_fault-fault-requires-clause-numbered : goal.order_fault-fault-requires-clause-numbered
order_fault-fault-requires-clause-numbered c =
    let place = c.loop-place.place in
    let orders = c.args.orders.now in
    let order = c.index-orders-place.result in
    let number = order_number c.args.opening.now in
    ap (λ (numbers : List (Option ℕ)). get_or numbers place None) c.requires.numbered
    ∙ get_or_from_slice_get (map number orders) place (number order) None (slice_get-map number orders place
    ∙ ap (option_map number) (slice_get-get_or orders place order c.loop-place-test.true ∙ ap Some (sym c.index-orders-place.is)))
