use Rattle.std.proofs.Common.{◌≡◌, ◌∙◌, sym, subst, ℕ, List, [], Contains, arith, below_more, true, false}
use Rattle.std.proofs.lemmas.List.{get_or_default}
use Rattle.wp_batch.proofs.last_places.place_with.Goals as goal

pub loop-place-preserved : goal.loop-place-preserved
loop-place-preserved c =
    let item = get_or_default c.args.batches.now c.loop-place.place [] c.index-batches-place.result c.loop-place-test.true ∙ sym c.index-batches-place.is in
    below_more _ _ c.loop-place.invariant (λ has.
    let both : false ≡ true = sym c.if-has.false ∙ c.has.ensures.exact.1 (subst (λ (b : List ℕ). Contains b c.args.order) item has) in absurd (cc both))

pub returns-clause-none : goal.returns-clause-none
returns-clause-none c = λ place within. c.loop-place.invariant place (omega (arith, within, c.loop-place-test.false))

pub returns-then-has-clause-there : goal.returns-then-has-clause-there
returns-then-has-clause-there c =
    let item = get_or_default c.args.batches.now c.loop-place.place [] c.index-batches-place.result c.loop-place-test.true ∙ sym c.index-batches-place.is in
    record {
      within = c.loop-place-test.true;
      has = subst (λ (b : List ℕ). Contains b c.args.order) (sym item) (c.has.ensures.exact.0 c.if-has.true);
    }
