-- Plans of waves that went out.
use Rattle.std.specs.Prelude.{◌↔◌, Option, IfSome, IsSome, length}
use Rattle.wp_model.specs.Opening.{Opening}
use Rattle.wp_model.specs.Warehouse.{Layout}
use Rattle.wp_machine.specs.declared.outcome.WaveHolds.{WaveHolds}
use Rattle.wp_lengths.specs.Waves.{WavePicks}
use Rattle.wp_cert.specs.Bounds.{TellsBound}
use Rattle.wp_cert.specs.TextData.{certificate_text}
use Rattle.wp_search.specs.Plans.{IsGoodPlan}
use Rattle.wp_search.specs.declared.plan.Planned.{Planned}
use Rattle.wp_planner.specs.Released.{IsReleased, IsWaveOf}
use Rattle.wp_planner.specs.Roots.{IsRootFor}
use Rattle.wp_planner.specs.Terms.{Terms, budget_of}
use Rattle.wp_planner.specs.declared.planner.WavePlan.{WavePlan}

-- the text of the certificate of a wave's plan tells the plan's bound, by the words that a check goes by
abbrev pub IsCertified : Layout → Terms → WavePicks → Planned → Type 0
IsCertified layout terms wave planned =
    TellsBound layout (certificate_text wave terms.capacity planned.tree) planned.bound

-- a good plan of the wave that picks where the one that went out holds units, with a bracket of its linear bound where
-- the terms ask for one, and with a certificate that tells its bound
pub record IsPlanOf (layout : Layout) (opening : Opening) (released : WaveHolds) (terms : Terms)
    (plan : WavePlan) : Type 0 where
  pub wave : IsWaveOf layout opening released plan.wave
  pub good : IsGoodPlan plan.wave terms.capacity (budget_of (length plan.wave.orders) terms) plan.planned
  pub root : IsRootFor terms plan.wave plan.root
  pub certified : IsCertified layout terms plan.wave plan.planned

-- there is a plan of a wave exactly where it is one that goes out, and it is a good one
pub record IsPlanFor (layout : Layout) (opening : Opening) (terms : Terms) (wave : WaveHolds)
    (plan : Option WavePlan) : Type 0 where
  pub there : IsSome plan ↔ IsReleased opening wave
  pub good : IfSome plan (IsPlanOf layout opening wave terms)
