use Rattle.std.proofs.Common.{◌∷◌, ◌++◌, List, true, slice_set, subst, sym, ◌∙◌, arith}
use Rattle.wp_waves.specs.OpenOrders.{AreMarked, MayFollow}
use Rattle.wp_waves.specs.declared.open_orders.OpenOrder.{OpenOrder}
use Rattle.wp_waves.proofs.Marks.{marked}
use Rattle.wp_waves.proofs.OrderNames.{found_at, some_found}
use Rattle.wp_waves.proofs.open_orders.OpenSoFar.add.Goals as goal

pub unwrap-number-requires : goal.unwrap-number-requires
unwrap-number-requires c =
    let follows : MayFollow c.self.inside.orders.now c.self.inside.listed.items c.args.one = rw (← c.self.view_is) at c.requires in
    some_found c.self.inside.orders.now c.args.one.order c.find.result c.find.ensures follows.is.known

pub index_mut-requires : goal.index_mut-requires
index_mut-requires c =
    let found = found_at c.self.inside.orders.now c.args.one.order c.unwrap-number.result (sym c.find.ensures ∙ c.unwrap-number.ensures) in
    omega (arith, found.within, c.self.invariant.count)

pub invariant_of-self-2 : goal.invariant_of-self-2
invariant_of-self-2 c =
    let orders = c.self.inside.orders.now in
    let marks = c.self.inside.named.items in
    let number = c.unwrap-number.result in
    let follows : MayFollow c.self.inside.orders.now c.self.inside.listed.items c.args.one = rw (← c.self.view_is) at c.requires in
    let found = found_at orders c.args.one.order number (sym c.find.ensures ∙ c.unwrap-number.ensures) in
    subst (λ (l : List OpenOrder). AreMarked orders l (slice_set marks number true)) (sym c.in_ok-push.ensures.items)
    (marked orders c.self.inside.listed.items marks c.args.one number c.self.invariant follows found)
