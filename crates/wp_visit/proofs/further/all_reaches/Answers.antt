use Rattle.std.proofs.Common.{arith, ap, ℕ, List, length, length-append, subst, ◌+◌, ◌∷◌, []}
use Rattle.wp_visit.specs.Items.{AreReachesBelow}
use Rattle.wp_visit.proofs.Later.{more_from}
use Rattle.wp_visit.proofs.further.all_reaches.Goals as goal

pub loop-passed-init : goal.loop-passed-init
loop-passed-init c = record {
  count = ap length c.new-all.ensures.items;
  each = λ k d within. absurd (omega (arith, within, ap length c.new-all.ensures.items));
  now = subst (λ (from : ℕ). AreReachesBelow c.args.given.now.paired.pairs.now c.args.given.now.duals.now from
      (c.args.given.now.paired.pairs.now.capacity + 1) c.reaches_of-reaches.result) (omega (arith, c.orders-orders.ensures.value))
      c.reaches_of-reaches.ensures.reaches;
}

pub reaches_before-reaches-requires-clause-after :
    goal.reaches_before-reaches-requires-clause-after
reaches_before-reaches-requires-clause-after c =
    subst (λ (from : ℕ). AreReachesBelow c.args.given.now.paired.pairs.now c.args.given.now.duals.now from
    (c.args.given.now.paired.pairs.now.capacity + 1) c.loop-passed.reaches)
    (omega (arith, c.orders-orders.ensures.value, c.loop-passed-test.true)) c.loop-passed.invariant.now

pub loop-passed-preserved : goal.loop-passed-preserved
loop-passed-preserved c = record {
  count = omega (
    arith,
    c.loop-passed.invariant.count,
    ap (λ (xs : List (List ℕ)). length xs) c.in_ok-push.ensures.items,
    length-append c.loop-passed.all.items (c.loop-passed.reaches ∷ []),
  );
  each = more_from c.args.given.now.paired.pairs.now c.args.given.now.duals.now c.loop-passed.all.items c.push.new.self.items
      c.loop-passed.reaches c.loop-passed.passed c.loop-passed.invariant.count c.loop-passed.invariant.each c.loop-passed.invariant.now
      c.in_ok-push.ensures.items;
  now = subst (λ (from : ℕ). AreReachesBelow c.args.given.now.paired.pairs.now c.args.given.now.duals.now from
      (c.args.given.now.paired.pairs.now.capacity + 1) c.reaches_before-reaches.result)
      (omega (arith, c.orders-orders.ensures.value, c.loop-passed-test.true)) c.reaches_before-reaches.ensures;
}

pub returns-clause-reaches : goal.returns-clause-reaches
returns-clause-reaches c =
    more_from c.args.given.now.paired.pairs.now c.args.given.now.duals.now c.loop-passed.all.items c.push-2.new.self.items c.loop-passed.reaches
    c.loop-passed.passed c.loop-passed.invariant.count c.loop-passed.invariant.each c.loop-passed.invariant.now c.in_ok-push-2.ensures.items
