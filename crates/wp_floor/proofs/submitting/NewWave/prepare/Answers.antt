use Rattle.std.proofs.Common.{◌≡◌, ◌∙◌, ◌<◌, ◌≤◌, ◌==◌, nat_lt, ℕ, refl, sym, ap, subst, inl, inr, List, length, map, None, Some, arith}
use Rattle.std.proofs.Common.{eq-eqb, ne_eqb}
use Rattle.std.proofs.lemmas.Bool.{cases_eq, cases_lt, cond-false, cond-true, lt-ltb}
use Rattle.wp_model.specs.Limits.{most_wave_orders}
use Rattle.wp_model.specs.declared.reply.Reply.TheVariants as reply
use Rattle.wp_floor.specs.Floor.{AreNeedsOf, order_number}
use Rattle.wp_floor.specs.NewWaves.{size_fault}
use Rattle.wp_floor.proofs.submitting.NewWave.prepare.Goals as goal

-- orders that make a wave are at least one
some_orders : (orders : List (List ℕ)) → size_fault orders ≡ None → 0 < length orders
some_orders orders is = elim (cases_eq (length orders) 0) [
  | inl none ↦
      let fault : size_fault orders ≡ Some reply.NoOrders = cond-true (length orders == 0) (Some reply.NoOrders) _ (eq-eqb (length orders) 0 none) in
      let both : Some reply.NoOrders ≡ None = sym fault ∙ is in
      absurd (cc)
  | inr some ↦ omega (arith, some)
]

-- and not too many
few_orders : (orders : List (List ℕ)) → size_fault orders ≡ None → length orders ≤ most_wave_orders
few_orders orders is = elim (cases_lt most_wave_orders (length orders)) [
  | inl many ↦
      let some : 0 < length orders = omega (arith, many) in
      let fault : size_fault orders ≡ Some (reply.WaveFull (length orders)) =
      cond-false (length orders == 0) (Some reply.NoOrders) _ (ne_eqb (length orders) 0 (λ e. absurd (omega (arith, some, e))))
      ∙ cond-true (nat_lt most_wave_orders (length orders)) (Some (reply.WaveFull (length orders))) None (lt-ltb most_wave_orders (length orders) many) in
      let both : Some (reply.WaveFull (length orders)) ≡ None = sym fault ∙ is in
      absurd (cc)
  | inr few ↦ omega (arith, few)
]

pub returns-clause-prepared : goal.returns-clause-prepared
returns-clause-prepared c =
    let copied = c.in_ok-needs.ensures.copied in
    let numbers = map (order_number c.args.opening.now) in
    record {
      needs = c.in_ok-needs.needs;
      submitted = refl;
      unpicked = refl;
      some = omega (arith, ap length copied, some_orders c.args.orders.now c.requires.size);
      most = omega (arith, ap length copied, few_orders c.args.orders.now c.requires.size);
      numbered = c.in_ok-numbers.ensures ∙ (ap numbers c.as_slice.ensures ∙ ap numbers (sym copied));
      has = subst (λ (os : List (List ℕ)). AreNeedsOf c.args.opening.now os c.in_ok-needs.needs) (sym copied) c.in_ok-needs.ensures;
    }
