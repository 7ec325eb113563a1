use Rattle.std.proofs.Common.{◌≡◌, ◌∙◌, sym, ap, true, false, Some, None}
use Rattle.std.proofs.lemmas.Option.{slice_get-get_or}
use Rattle.wp_model.proofs.NameEq.{contains_name}
use Rattle.wp_model.specs.Step.{is_among}
use Rattle.wp_floor.specs.Floor.{order_number}
use Rattle.wp_floor.proofs.OrderFaults.{by_taker, found_within, not_found, twice}
use Rattle.wp_floor.proofs.submitting.order_fault.Goals as goal

pub returns-in_default : goal.returns-in_default
returns-in_default c waves are =
    let none : order_number c.args.opening.now c.args.order.now ≡ None = sym c.requires.numbered ∙ c.in_default.is in
    not_found c.args.opening.now waves c.args.before.now c.args.order.now none

pub returns-then-contains : goal.returns-then-contains
returns-then-contains c waves are =
    let found = sym c.requires.numbered ∙ c.in-Some.is in
    let among : is_among c.args.before.now c.args.order.now ≡ true =
    sym (contains_name c.args.order.now c.args.before.now) ∙ (sym c.contains.ensures.value ∙ c.if-contains.true) in
    twice c.args.opening.now waves c.args.before.now c.args.order.now c.in-Some.number found among

pub cart_fault-requires-clause-found : goal.cart_fault-requires-clause-found
cart_fault-requires-clause-found c =
    sym c.requires.numbered ∙ c.in-Some.is

pub bounds-takers-number : goal.bounds-takers-number
bounds-takers-number c =
    found_within c.args.opening.now c.args.order.now c.in-Some.number _
    (sym c.requires.numbered ∙ c.in-Some.is) c.requires.count

pub returns-in-Some-taker : goal.returns-in-Some-taker
returns-in-Some-taker c waves are =
    let found = sym c.requires.numbered ∙ c.in-Some.is in
    let among : is_among c.args.before.now c.args.order.now ≡ false =
    sym (contains_name c.args.order.now c.args.before.now) ∙ (sym c.contains.ensures.value ∙ c.if-contains.false) in
    let there = slice_get-get_or c.args.takers.now c.in-Some.number c.index-takers-number.result
    (found_within c.args.opening.now c.args.order.now c.in-Some.number _ found c.requires.count)
    ∙ ap Some (sym c.index-takers-number.is ∙ c.in-Some-taker.is) in
    by_taker c.args.opening.now waves c.args.takers.now c.args.before.now c.args.order.now c.in-Some.number (Some c.in-Some-taker.wave) are found among there

pub returns-in-None : goal.returns-in-None
returns-in-None c waves are =
    let found = sym c.requires.numbered ∙ c.in-Some.is in
    let among : is_among c.args.before.now c.args.order.now ≡ false =
    sym (contains_name c.args.order.now c.args.before.now) ∙ (sym c.contains.ensures.value ∙ c.if-contains.false) in
    let there = slice_get-get_or c.args.takers.now c.in-Some.number c.index-takers-number.result
    (found_within c.args.opening.now c.args.order.now c.in-Some.number _ found c.requires.count) ∙ ap Some (sym c.index-takers-number.is ∙ c.in-None.is) in
    c.cart_fault.ensures
    ∙ by_taker c.args.opening.now waves c.args.takers.now c.args.before.now c.args.order.now c.in-Some.number None are found among there
