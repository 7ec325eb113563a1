use Rattle.std.proofs.Common.{◌≡◌, arith, ap, ℕ, ◌+◌, ◌-◌, subst, sym, length, length-append, List, ◌∷◌, []}
use Rattle.wp_visit.specs.declared.item.Item.{Item}
use Rattle.std.specs.Prelude.{slice_index_or}
use Rattle.wp_visit.specs.Items.{AreReachesBelow}
use Rattle.wp_visit.proofs.Children.{more_items}
use Rattle.wp_visit.proofs.visit.items_of.Goals as goal

pub loop-order-preserved : goal.loop-order-preserved
loop-order-preserved c = record {
  count = omega (
    arith,
    c.loop-order.invariant.count,
    ap (λ (xs : List Item). length xs) c.in_ok-push.ensures.items,
    length-append c.loop-order.items.items (c.item_of.result ∷ []),
  );
  items = more_items c.args.given.now.paired.pairs.now c.args.given.now.duals.now c.loop-order.order c.loop-order.items.items c.push.new.self.items
      c.item_of.result
      c.loop-order.invariant.count c.loop-order.invariant.items c.item_of.ensures c.in_ok-push.ensures.items;
}

pub item_of-requires-clause-reaches : goal.item_of-requires-clause-reaches
item_of-requires-clause-reaches c =
    let pairing = c.args.given.now.paired.pairs.now in
    let place = c.orders-orders.result - 1 - c.loop-order.order in
    let from : pairing.orders - place ≡ c.loop-order.order + 1 = omega (arith, c.orders-orders.ensures.value, c.loop-order-test.true) in
    subst (λ (after : List ℕ). AreReachesBelow pairing c.args.given.now.duals.now (c.loop-order.order + 1) (pairing.capacity + 1) after)
    (sym c.index.ensures)
    (subst (λ (start : ℕ). AreReachesBelow pairing c.args.given.now.duals.now start (pairing.capacity + 1)
    (slice_index_or c.args.reaches.now.items place c.index.result.now)) from
    (c.requires.reaches place c.index.result.now
    (omega (arith, c.orders-orders.ensures.value, c.loop-order-test.true, c.requires.count))))
