use Rattle.std.proofs.Common.{List, ℕ, arith, subst, sym, inr, ⊎_elim, Contains}
use Rattle.std.proofs.lemmas.Bool.{both_ways}
use Rattle.wp_pairs.proofs.pairs.Pairs.decided.Goals as goal

pub returns-else-has : goal.returns-else-has
returns-else-has c =
    let known = rw (← c.self.view_is) at c.requires.known in
    let kept = c.self.invariant.1 in
    let joins = kept.joins c.args.first c.args.second (omega (arith, c.requires.order, known)) in
    let parts = kept.parts c.args.first c.args.second (omega (arith, c.requires.order, known)) in
    rw (← c.self.view_is) (
      λ has. inr (parts.0 (subst (λ (xs : List ℕ). Contains xs c.args.second) c.orders_for-else-has.ensures (c.has-else-has.ensures.exact.0 has))),
      ⊎_elim
          (λ j. absurd (both_ways c.has.result c.if-has.false
          (c.has.ensures.exact.1 (subst (λ (xs : List ℕ). Contains xs c.args.second) (sym c.orders_for.ensures) (joins.1 j)))))
          (λ p. c.has-else-has.ensures.exact.1 (subst (λ (xs : List ℕ). Contains xs c.args.second) (sym c.orders_for-else-has.ensures) (parts.1 p))),
    )
