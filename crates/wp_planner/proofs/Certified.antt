-- The certificate of a plan tells the plan's bound.
use Rattle.std.proofs.Common.{subst, sym, ℕ, ◌≤◌, [], arith}
use Rattle.std.proofs.lemmas.List.{get_or_default}
use Rattle.wp_lengths.specs.Waves.{IsWave, WavePicks}
use Rattle.wp_cert.proofs.OneVerdict.{one_told}
use Rattle.wp_cert.proofs.TextShows.{shows_bound}
use Rattle.wp_cert.specs.Bounds.{TellsBound}
use Rattle.wp_cert.specs.TextData.{HaveSlots, certificate_text}
use Rattle.wp_graph.specs.PickSets.{AreSlots, PickSet}
use Rattle.wp_machine.specs.declared.outcome.WaveHolds.{WaveHolds}
use Rattle.wp_model.specs.Opening.{Opening}
use Rattle.wp_model.specs.Warehouse.{Layout}
use Rattle.wp_search.specs.Plans.{IsGoodPlan}
use Rattle.wp_search.specs.declared.plan.Planned.{Planned}
use Rattle.wp_planner.specs.Laws.{CheckedBoundsAreTold}
use Rattle.wp_planner.specs.Plans.{IsPlanOf}
use Rattle.wp_planner.specs.Released.{IsWaveOf}
use Rattle.wp_planner.specs.Sheets.{TellsTheBound}
use Rattle.wp_planner.specs.Terms.{Terms}
use Rattle.wp_planner.specs.declared.planner.WavePlan.{WavePlan}

-- the orders of a wave that went out pick at slots of its layout
all_slots : (layout : Layout) (opening : Opening) (released : WaveHolds) (wave : WavePicks) → IsWaveOf layout opening released wave
    → HaveSlots layout wave.orders
all_slots layout opening released wave of = λ k d within.
    subst (λ (picks : PickSet). AreSlots layout picks.points)
    (get_or_default wave.orders k (record { layout = wave.layout; points = [] }) d within)
    (of.slots k (omega (arith, within, of.orders)))

-- so the certificate of a good plan tells its bound
pub tells_its_bound : (layout : Layout) (opening : Opening) (released : WaveHolds) (capacity budget : ℕ) (wave : WavePicks) (planned : Planned)
    → IsWave wave → IsWaveOf layout opening released wave → 1 ≤ capacity → capacity ≤ 8 → IsGoodPlan wave capacity budget planned
    → TellsBound layout (certificate_text wave capacity planned.tree) planned.bound
tells_its_bound layout opening released capacity budget wave planned valid of some most good =
    let text = certificate_text wave capacity planned.tree in
    subst (λ (l : Layout). TellsBound l text planned.bound) of.layout_is
    (shows_bound wave capacity planned.tree planned.bound valid
    (subst (λ (l : Layout). HaveSlots l wave.orders) (sym of.layout_is) (all_slots layout opening released wave of)) some most good.sound.duals
    good.sound.bound)

-- the certificate of a plan's sheet tells the bound of the sheet's first line
pub sheet_tells : (layout : Layout) (opening : Opening) (released : WaveHolds) (terms : Terms) (plan : WavePlan) → IsPlanOf layout opening released terms plan
    → TellsTheBound plan.wave terms.capacity plan.planned
sheet_tells layout opening released terms plan good =
    let text = certificate_text plan.wave terms.capacity plan.planned.tree in
    subst (λ (l : Layout). TellsBound l text plan.planned.bound) (sym good.wave.layout_is) good.certified

-- a bound that a check tells of a sheet's certificate is that of its first line
pub check_tells : CheckedBoundsAreTold
check_tells opening released terms plan cancelled_later sheet bound is told =
    one_told plan.wave.layout (certificate_text plan.wave terms.capacity plan.planned.tree) bound plan.planned.bound told
    is.certified
