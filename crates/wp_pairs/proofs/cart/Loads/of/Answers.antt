use Rattle.std.proofs.Common.{arith, ap, length-set, ◌∙◌}
use Rattle.std.proofs.lemmas.List.{take_all}
use Rattle.wp_pairs.specs.Carts.{padded}
use Rattle.wp_pairs.proofs.LoadWords.{keeps_loads, one_more_load}
use Rattle.wp_pairs.proofs.cart.Loads.of.Goals as goal

pub loop-order-preserved : goal.loop-order-preserved
loop-order-preserved c = record {
  whole = length-set c.loop-order.words c.loop-order.order _ ∙ c.loop-order.invariant.whole;
  words = rw c.loop-order.invariant.words (one_more_load c.args.loads.now c.loop-order.order (omega (arith, c.loop-order-test.true)) c.requires);
}

pub invariant_of-result : goal.invariant_of-result
invariant_of-result c =
    (keeps_loads c.args.loads.now c.loop-order.words c.requires
    (c.loop-order.invariant.words ∙ ap padded (take_all c.loop-order.order c.args.loads.now (omega (arith, c.loop-order-test.false))))).0

pub returns : goal.returns
returns c =
    (keeps_loads c.args.loads.now c.loop-order.words c.requires
    (c.loop-order.invariant.words ∙ ap padded (take_all c.loop-order.order c.args.loads.now (omega (arith, c.loop-order-test.false))))).1
