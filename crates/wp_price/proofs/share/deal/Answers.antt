use Rattle.std.proofs.Common.{◌≡◌, ◌≢◌, ◌⊎◌, ◌↔◌, ◌∙◌, ℕ, List, [], arith, inl, inr, subst, ⊎_elim, Contains, length-set}
use Rattle.std.proofs.lemmas.Bool.{both_ways, cases_eq}
use Rattle.std.proofs.lemmas.List.{get_or_default}
use Rattle.wp_price.proofs.Dealing.{dealt_on}
use Rattle.wp_price.proofs.share.deal.Goals as goal
use Rattle.wp_price.proofs.share.deal.Goals.{then-has, else-has}

pub loop-order-preserved : goal.loop-order-preserved
loop-order-preserved c = elim c.if-has.branch [
  | then-has w ↦ rw w.shares-is (rw w.dealt-is (record {
    count = length-set c.loop-order.shares.items w.turn_after-worker.result w.with.result ∙ c.loop-order.invariant.count;
    few = omega (arith, c.loop-order.invariant.few);
    dealt = λ order low has. dealt_on c.loop-order.shares.items w.turn_after-worker.result w.with.result c.loop-order.order order
        (omega (arith, w.turn_after-worker.ensures.within, c.loop-order.invariant.count))
        (λ p. subst (λ (share : List ℕ). Contains w.with.result p ↔ (Contains share p ⊎ (p ≡ c.loop-order.order)))
        (w.index.ensures ∙ get_or_default c.loop-order.shares.items w.turn_after-worker.result _ []
        (omega (arith, w.turn_after-worker.ensures.within, c.loop-order.invariant.count))) (w.with.ensures.orders p)) (⊎_elim
        (λ (same : order ≡ c.loop-order.order). inr same)
        (λ (apart : order ≢ c.loop-order.order). inl (c.loop-order.invariant.dealt order (omega (arith, low, apart)) has))
        (cases_eq order c.loop-order.order));
  }))
  | else-has w ↦ rw w.shares-is (rw w.dealt-is (record {
    count = c.loop-order.invariant.count;
    few = omega (arith, c.loop-order.invariant.few);
    dealt = λ order low has. ⊎_elim
        (λ (same : order ≡ c.loop-order.order).
        absurd (both_ways c.has.result w.if-has.false (c.has.ensures.exact.1 (subst (Contains c.args.firsts) same has))))
        (λ (apart : order ≢ c.loop-order.order). c.loop-order.invariant.dealt order (omega (arith, low, apart)) has)
        (cases_eq order c.loop-order.order);
  }))
]
