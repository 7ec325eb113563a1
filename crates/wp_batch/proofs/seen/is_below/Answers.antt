use Rattle.std.proofs.Common.{◌≡◌, ◌≢◌, ℕ, ◌<◌, List, [], ◌∷◌, Contains, length, arith, inl, inr, refl, ⊎_elim}
use Rattle.std.proofs.lemmas.Bool.{cases_eq}
use Rattle.std.proofs.lemmas.List.Elements.{All-contains}
use Rattle.wp_pairs.proofs.Members.{contains_first}
use Rattle.wp_lengths.proofs.Unions.{all_from_contained}
use Rattle.wp_batch.proofs.seen.is_below.Goals as goal

some_order : (orders : List ℕ) → 0 < length orders → (order : ℕ) × Contains orders order
some_order [] some = absurd (omega (arith, some))
some_order (order ∷ orders) some = (order, contains_first order orders)

pub loop-order-init : goal.loop-order-init
loop-order-init c = (λ p has. inr has, λ p has. (has, omega arith))

pub loop-order-preserved : goal.loop-order-preserved
loop-order-preserved c = (
  λ p has. ⊎_elim (λ low. inl low)
      (λ left. ⊎_elim (λ (e : p ≡ c.loop-order.order). inl (omega (arith, e, c.loop-order-test.true)))
      (λ (ne : p ≢ c.loop-order.order). inr ((c.without-rest.ensures.orders p).1 (left, ne))) (cases_eq p c.loop-order.order))
      (c.loop-order.invariant.0 p has),
  λ p has.
      let left = (c.without-rest.ensures.orders p).0 has in
      let before = c.loop-order.invariant.1 p left.0 in
      let ne : p ≢ c.loop-order.order = left.1 in
      (before.0, omega (arith, before.1, ne)),
)

pub returns-then-len-gt0 : goal.returns-then-len-gt0
returns-then-len-gt0 c = (
  λ is. absurd (cc is),
  λ all.
      let left = some_order c.loop-order.rest (omega (arith, c.len.ensures.count, c.if-len-gt0.true)) in
      let known = c.loop-order.invariant.1 left.0 left.1 in
      absurd (omega (arith, known.1, All-contains (λ (order : ℕ). order < c.args.orders) c.args.batch left.0 all known.0, c.loop-order-test.false)),
)

pub returns : goal.returns
returns c = (
  λ is. all_from_contained (λ (order : ℕ). order < c.args.orders) c.args.batch
      (λ p has. ⊎_elim (λ low. low) (λ left. absurd (omega (arith, left.1, c.len.ensures.count, c.if-len-gt0.false))) (c.loop-order.invariant.0 p has)),
  λ all. refl,
)
