use Rattle.std.proofs.Common.{◌∙◌, ℕ, subst, sym}
use Rattle.wp_search.specs.Plans.{IsSoundPlan}
use Rattle.wp_planner.specs.Roots.{IsBracketOf}
use Rattle.wp_planner.proofs.bracket.root_of.Goals as goal

pub bracket_after-requires-clause-sound : goal.bracket_after-requires-clause-sound
bracket_after-requires-clause-sound g c κs within =
    subst (λ (most : ℕ). IsSoundPlan c.args.wave.now most c.args.planned.now) (sym c.capacity-capacity.ensures) c.requires.sound

pub returns : goal.returns
returns g c = (
  sym c.root.ensures ∙ c.if-not-root.false,
  rw (c.capacity-capacity.ensures, c.rounds_for-rounds.ensures) at c.in_ok-root.ensures,
)
