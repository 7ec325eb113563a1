use Rattle.std.proofs.Common.{◌≡◌, ◌≢◌, Contains, inl, inr, subst, sym, ⊎_elim}
use Rattle.std.proofs.lemmas.Bool.{cases_eq}
use Rattle.wp_cert.proofs.levels.missing_in.Goals as goal
use Rattle.wp_cert.proofs.levels.missing_in.Goals.{then-has, else-has}

pub loop-order-preserved : goal.loop-order-preserved
loop-order-preserved c = elim c.if-has.branch [
  | then-has w ↦ rw w.missing-is (record {
    within = λ order of. c.loop-order.invariant.within order ((w.without-missing.ensures.orders order).0 of).0;
    all = λ order of. ⊎_elim (λ there. inl there)
        (λ still. ⊎_elim
        (λ (same : order ≡ c.loop-order.order). inl (subst (Contains c.args.other) (sym same) (c.has.ensures.exact.0 w.if-has.true)))
        (λ (differs : order ≢ c.loop-order.order). inr ((w.without-missing.ensures.orders order).1 (still, differs)))
        (cases_eq order c.loop-order.order))
        (c.loop-order.invariant.all order of);
  })
  | else-has w ↦ rw w.missing-is c.loop-order.invariant
]
