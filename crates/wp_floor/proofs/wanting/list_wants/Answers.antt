use Rattle.std.proofs.Common.{◌≡◌, ◌∙◌, ℕ, Option, None, subst, sym, ap, List, length, get_or, arith}
use Rattle.std.proofs.lemmas.List.{length-map}
use Rattle.std.proofs.lemmas.Option.{slice_get-get_or}
use Rattle.wp_model.specs.Opening.{Opening}
use Rattle.wp_floor.specs.Floor.{AreNumbersOf, order_number}
use Rattle.wp_floor.specs.WantLists.{AreWantsBefore}
use Rattle.wp_floor.proofs.OrderNumbers.{named_at}
use Rattle.wp_floor.proofs.WaveWants.{are_wants, fits_order, none_before, order_more}
use Rattle.wp_floor.proofs.wanting.list_wants.Goals as goal

-- there are as many orders as numbers
as_many : (opening : Opening) (orders : List (List ℕ)) (numbers : List (Option ℕ)) → AreNumbersOf opening orders numbers → length numbers ≡ length orders
as_many opening orders numbers are = ap length are ∙ length-map orders (order_number opening)

pub loop-place-init : goal.loop-place-init
loop-place-init c = λ orders are. subst (AreWantsBefore c.args.opening.now orders 0) (sym c.new-wants.ensures.items) (none_before c.args.opening.now orders)

pub order_lines-requires-clause-named : goal.order_lines-requires-clause-named
order_lines-requires-clause-named c =
    let numbers = c.args.numbers.now in
    let at = named_at c.args.opening.now c.requires.named.0 numbers c.loop-place.place (get_or numbers c.loop-place.place None) c.requires.named.1
    (slice_get-get_or numbers c.loop-place.place None c.loop-place-test.true) in
    (at.name, sym at.is)

pub add_order-requires-clause-before : goal.add_order-requires-clause-before
add_order-requires-clause-before c = (c.loop-place.invariant c.requires.named.0 c.requires.named.1).before

pub add_order-requires-clause-small : goal.add_order-requires-clause-small
add_order-requires-clause-small c =
    let orders = c.requires.named.0 in
    let many = as_many c.args.opening.now orders c.args.numbers.now c.requires.named.1 in
    fits_order c.args.opening.now orders c.loop-place.place c.order_lines.result.now c.loop-place.wants.items
    (omega (arith, many, c.loop-place-test.true)) (omega (arith, many, c.requires.few))
    c.order_lines.ensures.each c.order_lines.ensures.few (c.loop-place.invariant orders c.requires.named.1)

pub loop-place-preserved : goal.loop-place-preserved
loop-place-preserved c = λ orders are.
    let numbers = c.args.numbers.now in
    let at = named_at c.args.opening.now orders numbers c.loop-place.place (get_or numbers c.loop-place.place None) are
    (slice_get-get_or numbers c.loop-place.place None c.loop-place-test.true) in
    order_more c.args.opening.now orders c.loop-place.place at.name c.order_lines.result.now c.loop-place.wants.items c.add_order.new.wants.items at.there
    (c.order_lines.ensures.lines at.name (sym at.is)) c.order_lines.ensures.each c.order_lines.ensures.few c.in_ok-add_order.ensures.before
    c.in_ok-add_order.ensures.added c.in_ok-add_order.ensures.articles (c.loop-place.invariant orders are)

pub returns : goal.returns
returns c = λ orders are.
    let many = as_many c.args.opening.now orders c.args.numbers.now are in
    are_wants c.args.opening.now orders c.loop-place.wants.items (omega (arith, many, c.requires.few))
    (subst (λ (n : ℕ). AreWantsBefore c.args.opening.now orders n c.loop-place.wants.items) (omega (arith, many)) (c.loop-place.invariant orders are))
