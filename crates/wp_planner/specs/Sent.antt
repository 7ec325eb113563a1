-- Waves that went out on a day, and their plans.
use Rattle.std.specs.Prelude.{◌≡◌, List, Option, Some, map}
use Rattle.std.specs.List.{All, filter_map}
use Rattle.wp_desk.specs.declared.day_run.Planned.{Planned}
use Rattle.wp_machine.specs.declared.outcome.WaveHolds.{WaveHolds}
use Rattle.wp_model.specs.Opening.{Opening}
use Rattle.wp_model.specs.Warehouse.{Layout}
use Rattle.wp_planner.specs.Plans.{IsPlanOf}
use Rattle.wp_planner.specs.Released.{IsReleased}
use Rattle.wp_planner.specs.Terms.{Terms}
use Rattle.wp_planner.specs.declared.planner.WavePlan.{WavePlan}

-- a wave that went out, and its plan where it has one
abbrev pub Sent : Type 0
Sent = Planned (Option WavePlan)

-- a wave that went out holds units for each of its orders, and has a good plan
pub record IsPlanned (layout : Layout) (opening : Opening) (terms : Terms) (sent : Sent) : Type 0 where
  pub released : IsReleased opening sent.wave
  pub plan : WavePlan
  pub there : sent.plan ≡ Some plan
  pub good : IsPlanOf layout opening sent.wave terms plan

-- so it is with each
abbrev pub ArePlanned : Layout → Opening → Terms → List Sent → Type 0
ArePlanned layout opening terms sent = All (IsPlanned layout opening terms) sent

-- the waves that went out
abbrev pub sent_waves : List Sent → List WaveHolds
sent_waves sent = map (λ s. s.wave) sent

-- their plans
abbrev pub plans_of : List Sent → List WavePlan
plans_of sent = filter_map (λ s. s.plan) sent
