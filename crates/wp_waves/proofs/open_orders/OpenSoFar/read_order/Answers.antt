use Rattle.std.proofs.Common.{◌∙◌, refl, sym, true, false, arith}
use Rattle.wp_waves.specs.OpenFile.{is_open}
use Rattle.wp_waves.proofs.OpenRecords.{mark_is, order_is}
use Rattle.wp_waves.proofs.OrderNames.{found_at, not_found}
use Rattle.wp_waves.proofs.open_orders.OpenSoFar.read_order.Goals as goal

pub index-requires : goal.index-requires
index-requires c =
    let found = found_at c.self.inside.orders.now c.in_ok-name.name c.in-Some.number (sym c.find.ensures ∙ c.in-Some.is) in
    omega (arith, found.within, c.self.invariant.count)

pub returns-in-Some : goal.returns-in-Some
returns-in-Some c =
    let orders = c.self.inside.orders.now in
    let listed = c.self.inside.listed.items in
    let name = c.in_ok-name.name in
    let found = found_at orders name c.in-Some.number (sym c.find.ensures ∙ c.in-Some.is) in
    let before = mark_is orders listed c.self.inside.named.items name c.in-Some.number c.index.result.now c.self.invariant found c.index.ensures
    ∙ c.if-index.true in
    record {
      order = rw (← c.self.view_is)
          (order_is orders listed c.args.field.now name true true (sym c.read_name.ensures ∙ c.in_ok-name.was) found.known before);
    }

pub returns-in-Some-2 : goal.returns-in-Some-2
returns-in-Some-2 c =
    let orders = c.self.inside.orders.now in
    let listed = c.self.inside.listed.items in
    let name = c.in_ok-name.name in
    let found = found_at orders name c.in-Some.number (sym c.find.ensures ∙ c.in-Some.is) in
    let before = mark_is orders listed c.self.inside.named.items name c.in-Some.number c.index.result.now c.self.invariant found c.index.ensures
    ∙ c.if-index.false in
    record {
      order = rw (← c.self.view_is)
          (order_is orders listed c.args.field.now name true false (sym c.read_name.ensures ∙ c.in_ok-name.was) found.known before);
    }

pub returns-in-None : goal.returns-in-None
returns-in-None c =
    let orders = c.self.inside.orders.now in
    let listed = c.self.inside.listed.items in
    let name = c.in_ok-name.name in
    record {
      order = rw (← c.self.view_is)
          (order_is orders listed c.args.field.now name false (is_open listed name) (sym c.read_name.ensures ∙ c.in_ok-name.was)
          (not_found orders name (sym c.find.ensures ∙ c.in-None.is)) refl);
    }
