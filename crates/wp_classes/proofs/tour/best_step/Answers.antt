use Rattle.std.proofs.Common.{◌≡◌, ℕ, suc, ◌-◌, ◌∙◌, ap, arith, subst, sym}
use Rattle.wp_classes.specs.declared.tour.AisleStep.{AisleStep}
use Rattle.wp_classes.specs.Choices.{block_of}
use Rattle.wp_classes.specs.Onward.{AreOnward, Onward}
use Rattle.wp_classes.specs.Steps.{IsBestStep}
use Rattle.wp_classes.proofs.Small.{lengths_within, through_within, ways_within}
use Rattle.wp_classes.proofs.BestSteps.{IsChoosing, best_crosses, best_leads, best_step_made, cross_some, leads_some}
use Rattle.wp_classes.proofs.tour.best_step.Goals as goal
use Rattle.wp_classes.proofs.tour.best_step.Goals.{After-before_way-through}

choosing : (c : After-before_way-through) →
    IsChoosing (block_of c.args.layout.now c.args.picks.now.points) (c.args.layout.now.aisles - c.args.aisle)
    (c.args.aisle - 1) c.aisle_ways-ways.result c.from-spacing.result c.args.after.now c.before_way-through.result c.args.class
choosing c =
    let block = block_of c.args.layout.now c.args.picks.now.points in
    let left = c.args.layout.now.aisles - c.args.aisle in
    let next : c.args.aisle ≡ suc (c.args.aisle - 1) = omega (arith, c.requires.first) in
    let more : c.args.layout.now.aisles - (c.args.aisle - 1) ≡ suc left = omega (arith, c.requires.first, c.requires.last) in
    record {
      are = subst (λ (a : ℕ). AreOnward block left a c.args.after.now) next c.requires.after;
      ways_are = c.aisle_ways-ways.ensures.value ∙ ap block.ways next;
      spacing_is = c.from-spacing.ensures ∙ c.spacing_after.ensures.value;
      by_ways = c.before_way-through.ensures;
      goes_on = (c.requires.goes_on.0, subst (λ (n : ℕ). Onward block n (c.args.aisle - 1) c.args.class c.requires.goes_on.0) more c.requires.goes_on.1);
    }

pub before_way-through-requires-clause-ways : goal.before_way-through-requires-clause-ways
before_way-through-requires-clause-ways c = λ way. ways_within _ _ _ _ c.spacing_after.ensures.valid c.aisle_ways-ways.ensures.value way

pub before_way-through-requires-clause-after : goal.before_way-through-requires-clause-after
before_way-through-requires-clause-after c = λ class.
    lengths_within _ _ _ _ _ c.spacing_after.ensures.valid (omega (arith, c.spacing_after.ensures.valid.aisles)) c.requires.after class

pub best_cross-cross-requires-clause-after : goal.best_cross-cross-requires-clause-after
best_cross-cross-requires-clause-after c = λ class.
    through_within _ _ _ _ _ _ _ c.spacing_after.ensures.valid
    (omega (arith, c.spacing_after.ensures.valid.aisles)) c.requires.after c.aisle_ways-ways.ensures.value
    c.before_way-through.ensures class

pub unwrap-between-requires : goal.unwrap-between-requires
unwrap-between-requires c =
    rw c.after_cross.ensures (cross_some (best_crosses (choosing (goal.at.unwrap-between-requires c).After-before_way-through) c.best_cross-cross.result
    c.best_cross-cross.ensures))

pub best_way-way-requires-clause-ways : goal.best_way-way-requires-clause-ways
best_way-way-requires-clause-ways c = λ way. ways_within _ _ _ _ c.spacing_after.ensures.valid c.aisle_ways-ways.ensures.value way

pub best_way-way-requires-clause-after : goal.best_way-way-requires-clause-after
best_way-way-requires-clause-after c = λ class.
    lengths_within _ _ _ _ _ c.spacing_after.ensures.valid (omega (arith, c.spacing_after.ensures.valid.aisles)) c.requires.after class

pub unwrap-requires : goal.unwrap-requires
unwrap-requires c =
    let h = choosing (goal.at.unwrap-requires c).After-before_way-through in
    let crossed = best_crosses h c.best_cross-cross.result c.best_cross-cross.ensures in
    rw c.after_way.ensures (leads_some (best_leads h crossed c.unwrap-between.result c.best_way-way.result
    (sym c.after_cross.ensures ∙ c.unwrap-between.ensures) c.best_way-way.ensures))

pub returns : goal.returns
returns c =
    let block = block_of c.args.layout.now c.args.picks.now.points in
    let left = c.args.layout.now.aisles - c.args.aisle in
    let next : c.args.aisle ≡ suc (c.args.aisle - 1) = omega (arith, c.requires.first) in
    let more : c.args.layout.now.aisles - (c.args.aisle - 1) ≡ suc left = omega (arith, c.requires.first, c.requires.last) in
    let step : AisleStep = record { cross = c.best_cross-cross.result; way = c.best_way-way.result; class = c.unwrap.result } in
    let made = best_step_made (choosing (goal.at.returns c).After-before_way-through) step c.unwrap-between.result c.best_cross-cross.ensures
    (sym c.after_cross.ensures ∙ c.unwrap-between.ensures) c.best_way-way.ensures (sym c.after_way.ensures ∙ c.unwrap.ensures) in
    subst (λ (n : ℕ). IsBestStep block n c.args.aisle c.args.after.now c.args.class step) (sym more)
    (subst (λ (a : ℕ). IsBestStep block (suc left) a c.args.after.now c.args.class step) (sym next) made)
