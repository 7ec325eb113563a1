use Rattle.std.proofs.Common.{◌≡◌, ◌≢◌, ◌∙◌, arith, inl, inr, subst, sym, ⊎_elim}
use Rattle.std.proofs.lemmas.Bool.{cases_eq}
use Rattle.wp_visit.specs.Places.{IsNoChild}
use Rattle.wp_price.proofs.Options.{none_there}
use Rattle.wp_price.proofs.search.SlackSearch.first_items.Goals as goal
use Rattle.wp_price.proofs.search.SlackSearch.first_items.Goals.{then-is_some, else-is_some}

pub loop-order-preserved : goal.loop-order-preserved
loop-order-preserved c = elim c.if-is_some.branch [
  | then-is_some w ↦ rw w.firsts-is (λ order low none. ⊎_elim
      (λ (same : order ≡ c.loop-order.order). absurd (none ((w.with-firsts.ensures.orders order).1 (inr same))))
      (λ (apart : order ≢ c.loop-order.order). c.loop-order.invariant order (omega (arith, low, apart))
      (λ has. none ((w.with-firsts.ensures.orders order).1 (inl has)))) (cases_eq order c.loop-order.order))
  | else-is_some w ↦ rw w.firsts-is (λ order low none. ⊎_elim
      (λ (same : order ≡ c.loop-order.order). subst (IsNoChild c.args.self.now.pairing c.args.place.now.batch) (sym same)
      (none_there c.child_of.result _ (sym c.is_some.ensures ∙ w.if-is_some.false) c.child_of.ensures.none))
      (λ (apart : order ≢ c.loop-order.order). c.loop-order.invariant order (omega (arith, low, apart)) none) (cases_eq order c.loop-order.order))
]

pub returns : goal.returns
returns c = λ order low none. c.loop-order.invariant order (omega (arith, low, c.loop-order-test.false, c.orders-order-end.ensures.value)) none
