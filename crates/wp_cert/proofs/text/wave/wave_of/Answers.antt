use Rattle.std.proofs.Common.{List, arith, length, subst, sym, ◌∙◌}
use Rattle.wp_cert.specs.Text.{PickAt}
use Rattle.wp_cert.specs.declared.text.form.WrittenSlot.{WrittenSlot}
use Rattle.wp_cert.proofs.TextCarts.{as_many_loads, orders_within}
use Rattle.wp_cert.proofs.TextPicks.{as_many}
use Rattle.wp_cert.proofs.text.wave.wave_of.Goals as goal

pub taking-requires-clause-most : goal.taking-requires-clause-most
taking-requires-clause-most c =
    let picks = subst (λ (orders : List (List WrittenSlot)). PickAt c.in_ok-all.all.items orders) c.as_slice.ensures c.in_ok-all.ensures.picks in
    let range = orders_within c.args.layout.now c.args.form.now c.requires in
    omega (arith, as_many c.in_ok-all.all.items c.args.form.now.orders picks, range.0)

pub returns-in-None-clause-orders : goal.returns-in-None-clause-orders
returns-in-None-clause-orders c = rw (c.taking.ensures.orders, ← c.as_slice.ensures) c.in_ok-all.ensures.picks

pub taking_with_cart-requires-clause-loads : goal.taking_with_cart-requires-clause-loads
taking_with_cart-requires-clause-loads c =
    let picks = subst (λ (orders : List (List WrittenSlot)). PickAt c.in_ok-all.all.items orders) c.as_slice.ensures c.in_ok-all.ensures.picks in
    let range = orders_within c.args.layout.now c.args.form.now c.requires in
    let made = sym c.in-Some.is ∙ c.in_ok-any_cart_of.ensures in
    as_many_loads (length c.args.form.now.orders) c.args.form.now.cart c.in-Some.cart range.1 made
    ∙ sym (as_many c.in_ok-all.all.items c.args.form.now.orders picks)

pub returns-in-Some-clause-orders : goal.returns-in-Some-clause-orders
returns-in-Some-clause-orders c = rw (c.taking_with_cart.ensures.orders, ← c.as_slice.ensures) c.in_ok-all.ensures.picks
