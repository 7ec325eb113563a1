use Rattle.std.proofs.Common.{◌≡◌, ◌≢◌, ℕ, List, [], arith, subst, sym, ⊎_elim}
use Rattle.std.proofs.lemmas.Bool.{both_ways, cases_eq}
use Rattle.std.proofs.lemmas.Option.{get_or_from_slice_get}
use Rattle.wp_cert.specs.Trees.{IsTightAt, IsTightBatch}
use Rattle.wp_cert.proofs.own.first_slack.Goals as goal

pub loop-order-preserved : goal.loop-order-preserved
loop-order-preserved c = λ lower low.
    let own = c.args.tested.now.own.now in
    let there = get_or_from_slice_get own.tight c.loop-order.order c.at.result.now [] c.at.ensures in
    ⊎_elim
    (λ (e : lower ≡ c.loop-order.order). subst (λ (o : ℕ). IsTightAt c.args.tested.now.terms.now c.args.tested.now.pairs.now own o) (sym e)
    (subst (λ (b : List ℕ). IsTightBatch c.args.tested.now.terms.now c.args.tested.now.pairs.now own c.loop-order.order b) (sym there) (c.is_tight.ensures.0
    c.if-not-is_tight.false)))
    (λ (ne : lower ≢ c.loop-order.order). c.loop-order.invariant lower (omega (arith, low, ne)))
    (cases_eq lower c.loop-order.order)

pub returns-then-not-is_tight-clause-some : goal.returns-then-not-is_tight-clause-some
returns-then-not-is_tight-clause-some c =
    let own = c.args.tested.now.own.now in
    let there = get_or_from_slice_get own.tight c.loop-order.order c.at.result.now [] c.at.ensures in record {
      known = omega (arith, c.loop-order-test.true, c.orders-order-end.ensures.value);
      before = c.loop-order.invariant;
      slack = λ tight. both_ways c.is_tight.result c.if-not-is_tight.true
          (c.is_tight.ensures.1 (subst (λ (b : List ℕ). IsTightBatch c.args.tested.now.terms.now c.args.tested.now.pairs.now own c.loop-order.order b) there
          tight));
    }

pub returns-clause-none : goal.returns-clause-none
returns-clause-none c = λ order low. c.loop-order.invariant order (omega (arith, low, c.loop-order-test.false, c.orders-order-end.ensures.value))
