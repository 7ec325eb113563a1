use Rattle.std.proofs.Common.{◌∙◌, ap, sym, ⊎_elim}
use Rattle.wp_model.specs.declared.point.Point.{Point}
use Rattle.wp_walk.proofs.TurnPlaces.{depot_required, pick_required}
use Rattle.wp_walk.proofs.turns.is_required.Goals as goal

pub returns-then-depot-place-clause-value : goal.returns-then-depot-place-clause-value
returns-then-depot-place-clause-value c =
    let depot = c.depot_point-depot.ensures.value in
    sym (depot_required c.args.layout.now c.args.picks.now.points c.args.aisle c.args.place
    (sym (ap (λ (p : Point). p.aisle) depot) ∙ c.if-depot-aisle.true) (sym (ap (λ (p : Point). p.slot) depot) ∙ c.if-depot-place.true))

pub returns-clause-value : goal.returns-clause-value
returns-clause-value c =
    let depot = c.depot_point-depot.ensures.value in
    pick_required c.args.layout.now c.args.picks.now.points c.args.aisle c.args.place c.has-picked.result c.has-picked.ensures.exact
    (λ here end. ⊎_elim (λ other. other.1 (ap (λ (p : Point). p.slot) depot ∙ end)) (λ other. other (ap (λ (p : Point). p.aisle) depot ∙ here))
    c.else-depot-aisle.either)
