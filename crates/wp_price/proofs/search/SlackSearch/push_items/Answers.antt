use Rattle.std.proofs.Common.{arith, append-nil, [], subst}
use Rattle.wp_lengths.specs.Visits.{Children}
use Rattle.wp_price.specs.ShortMarks.{AreShort, all_added}
use Rattle.wp_price.proofs.ItemMarking.{all_none}
use Rattle.wp_price.proofs.search.SlackSearch.push_items.Goals as goal

pub push_item-requires-clause-none : goal.push_item-requires-clause-none
push_item-requires-clause-none c = all_none c.args.self.now c.args.shares.now c.args.found.now c.loop-order.order c.requires.all c.requires.count
    c.requires.found (omega (arith, c.loop-order-test.true, c.orders-order-end.ensures.value))

pub returns : goal.returns
returns c = record {
  marks = c.loop-order.invariant.so_far;
  is = c.loop-order.invariant.is;
  short = subst (AreShort c.args.self.now.wave c.args.self.now.pairing c.args.self.now.duals (Children [] 0)) (append-nil c.loop-order.invariant.so_far)
      (c.loop-order.invariant.chain [] (all_added (omega (arith, c.loop-order-test.false, c.orders-order-end.ensures.value))));
}
