-- The picks of a batch of a wave that went out are slots of the layout.
use Rattle.std.proofs.Common.{◌<◌, ℕ, List, All, arith, length, sym, subst}
use Rattle.std.proofs.lemmas.List.Elements.{All-contains, All-weaker}
use Rattle.wp_lengths.specs.Lengths.{batch_picks}
use Rattle.wp_lengths.specs.Waves.{WavePicks, picks_of}
use Rattle.wp_graph.proofs.Members.{Contains-from_among, among_from_Contains, flat_map_source}
use Rattle.wp_graph.specs.PickSets.{AreSlots}
use Rattle.wp_machine.specs.declared.outcome.WaveHolds.{WaveHolds}
use Rattle.wp_model.specs.Opening.{Opening}
use Rattle.wp_model.specs.Warehouse.{Layout}
use Rattle.wp_planner.specs.Plans.{IsPlanOf}
use Rattle.wp_planner.specs.Released.{IsReleased, IsWaveOf}
use Rattle.wp_planner.specs.Terms.{Terms}
use Rattle.wp_planner.specs.declared.planner.WavePlan.{WavePlan}

-- a batch of its orders picks at slots alone
pub batch_slots : (layout : Layout) (opening : Opening) (released : WaveHolds) (wave : WavePicks) (batch : List ℕ) → IsReleased opening released
    → IsWaveOf layout opening released wave → All (λ order. order < length released.orders) batch → AreSlots wave.layout (batch_picks wave batch)
batch_slots layout opening released wave batch out of known =
    subst (λ (l : Layout). AreSlots l (batch_picks wave batch)) (sym of.layout_is) (record {
      ranges = (of.slots 0 (omega (arith, out.listed.some))).ranges;
      slots = λ p has.
          let source = flat_map_source (picks_of wave) batch p (among_from_Contains (batch_picks wave batch) p has) in
          let within = All-contains (λ (order : ℕ). order < length released.orders) batch source.0 known (Contains-from_among batch source.0 source.1) in
          (of.slots source.0 within).slots p (Contains-from_among (picks_of wave source.0) p source.2);
    })

-- so do all batches of a plan
pub batches_slots : (layout : Layout) (opening : Opening) (released : WaveHolds) (terms : Terms) (plan : WavePlan) → IsReleased opening released
    → IsPlanOf layout opening released terms plan → All (λ batch. AreSlots plan.wave.layout (batch_picks plan.wave batch)) plan.planned.batching
batches_slots layout opening released terms plan out good =
    All-weaker (All (λ (order : ℕ). order < length plan.wave.orders)) (λ (batch : List ℕ). AreSlots plan.wave.layout (batch_picks plan.wave batch))
    (λ batch known. batch_slots layout opening released plan.wave batch out good.wave
    (subst (λ (n : ℕ). All (λ (order : ℕ). order < n) batch) good.wave.orders known))
    plan.planned.batching good.good.sound.batching.known
