-- Lengths of the batches of a wave, and how many batches there are.
use Rattle.std.proofs.Common.{◌≡◌, ℕ, zero, suc, ◌+◌, ◌-◌, ◌<◌, ◌≤◌, ◌==◌, ◌||◌, if◌then◌else◌, true, false, List, [], ◌∷◌, Contains, length, All, arith, ap}
use Rattle.std.proofs.Common.{refl, subst, sym, ◌∙◌, inl, inr}
use Rattle.std.proofs.lemmas.Bool.{cases_eq}
use Rattle.std.proofs.lemmas.List.Elements.{All-contains, Contains-get_or}
use Rattle.std.proofs.lemmas.List.{get_or_default}
use Rattle.std.proofs.lemmas.Option.{same_Some}
use Rattle.std.specs.Prelude.{slice_index}
use Rattle.wp_lengths.specs.Batchings.{IsListedByLeast, batch_at}
use Rattle.wp_lengths.specs.Lengths.{batch_picks}
use Rattle.wp_lengths.specs.Waves.{WavePicks, picks_of}
use Rattle.wp_cert.specs.Walks.{ArePutIntoBatches}
use Rattle.wp_graph.proofs.Members.{Contains-from_among, among-flat_map, among_from_Contains}
use Rattle.wp_machine.specs.declared.outcome.WaveHolds.{WaveHolds}
use Rattle.wp_model.proofs.Elements.{within_some}
use Rattle.wp_model.specs.HoldLists.{IsHoldWithin}
use Rattle.wp_model.specs.Opening.{Opening}
use Rattle.wp_model.specs.Tours.{IsClosedWalk, IsShortest}
use Rattle.wp_model.specs.Warehouse.{End, IsLayout, IsPoint, IsSlot, IsUpTo, Layout, Step, depot_point, end_place, spacing_after, step_length}
use Rattle.wp_model.specs.Warehouse.End.{at_front, at_back}
use Rattle.wp_model.specs.Warehouse.Step.{deeper, nearer, further, back}
use Rattle.wp_model.specs.declared.point.Point.{Point}
use Rattle.wp_planner.proofs.BatchSlots.{batches_slots}
use Rattle.wp_planner.specs.Crews.{GoesSomewhere}
use Rattle.wp_planner.specs.Plans.{IsPlanOf}
use Rattle.wp_planner.specs.Released.{IsReleased}
use Rattle.wp_planner.specs.Slots.{slot_at}
use Rattle.wp_planner.specs.Terms.{Terms}
use Rattle.wp_planner.specs.declared.planner.WavePlan.{WavePlan}

-- each move is at least 1 long
some_step : (layout : Layout) (slot : ℕ) → IsLayout layout → 1 ≤ step_length layout slot
some_step layout slot is = elim (slot == 0 || slot == layout.slots) as (λ b. 1 ≤ (if b then layout.clearance else layout.pitch)) [
  | true ↦ is.clearance.0
  | false ↦ is.pitch.0
]

some_spacing : (layout : Layout) (aisle : ℕ) → IsLayout layout → 1 ≤ aisle → aisle < layout.aisles → 1 ≤ spacing_after layout aisle
some_spacing layout zero is low high = absurd (omega arith)
some_spacing layout (suc before) is low high = (is.spacings before 0 (omega (arith, is.between))).0

some_move : (layout : Layout) (from to : Point) (long : ℕ) → IsLayout layout → IsPoint layout from → IsPoint layout to → Step layout from to long → 1 ≤ long
some_move layout from to long is one other (deeper by) = omega (arith, by.length_is, some_step layout from.slot is)
some_move layout from to long is one other (nearer by) = omega (arith, by.length_is, some_step layout to.slot is)
some_move layout from to long is one other (further by) =
    omega (arith, by.length_is, some_spacing layout from.aisle is one.aisle.0 (omega (arith, by.aisle, other.aisle.1)))
some_move layout from to long is one other (back by) =
    omega (arith, by.length_is, some_spacing layout to.aisle is other.aisle.0 (omega (arith, by.aisle, one.aisle.1)))

-- the depot lies at no slot
off_slots : (end : End) (slots place : ℕ) → end_place (slots + 1) end ≡ place → IsUpTo slots place → ⊥
off_slots at_front slots place is within = omega (arith, is, within.0)
off_slots at_back slots place is within = omega (arith, is, within.1)

-- so a walk from the depot past a slot makes a move
some_walk : (layout : Layout) (points : List Point) (point : Point) (total : ℕ) → IsLayout layout → IsSlot layout point → IsClosedWalk layout points total
    → Contains points point → 1 ≤ total
some_walk layout [] point total is slot walk has = absurd (omega (arith, has.1))
some_walk layout (first ∷ []) point total is slot walk has = elim (among_from_Contains (first ∷ []) point has) [
  | inl here ↦ absurd (off_slots layout.end layout.slots point.slot
      (ap (λ (p : Point). p.slot) (sym (same_Some first (depot_point layout) walk.begins) ∙ here)) slot.slot)
  | inr none ↦ absurd none
]
some_walk layout (first ∷ next ∷ points) point total is slot walk has =
    let move = walk.goes.2 in omega (arith, some_move layout first next walk.goes.0 is move.from_point move.to_point move.step, walk.goes.4)

-- a shortest tour past a slot is at least 1 long
pub some_length : (layout : Layout) (picks : List Point) (point : Point) (total : ℕ) → IsLayout layout → IsSlot layout point → Contains picks point
    → IsShortest layout picks total → 1 ≤ total
some_length layout picks point total is slot has shortest =
    let tour = shortest.some.1 in
    some_walk layout shortest.some.0 point total is slot tour.closed (All-contains (Contains shortest.some.0) picks point tour.serves has)

-- each batch of a wave that is put into batches has an order of the wave: its least
pub least_order : (wave : WavePicks) (capacity : ℕ) (batches : List (List ℕ)) (place : ℕ) → ArePutIntoBatches wave capacity batches → place < length batches
    → Contains (batch_at batches place) (slice_index (batch_at batches place) 0) × (slice_index (batch_at batches place) 0 < length wave.orders)
least_order wave capacity batches place are within =
    let has = Contains-get_or (batch_at batches place) 0 0 (are.filled place [] within) in (
      has,
      All-contains (λ (order : ℕ). order < length wave.orders) (batch_at batches place) (slice_index (batch_at batches place) 0)
          (are.known place [] within) has,
    )

-- the least orders of listed batches are no less than their places
least_orders : (batches : List (List ℕ)) (place : ℕ) → IsListedByLeast batches → place < length batches → place ≤ slice_index (batch_at batches place) 0
least_orders batches zero listed within = omega arith
least_orders batches (suc place) listed within =
    omega (arith, listed place (suc place) (omega arith) within, least_orders batches place listed (omega arith))

-- so there are no more batches than orders
pub few_batches : (wave : WavePicks) (capacity : ℕ) (batches : List (List ℕ)) → ArePutIntoBatches wave capacity batches → IsListedByLeast batches
    → length batches ≤ length wave.orders
few_batches wave capacity batches are listed = elim (cases_eq (length batches) 0) [
  | inl none ↦ omega (arith, none)
  | inr some ↦
      let last = length batches - 1 in
      let within : last < length batches = omega (arith, some) in
      omega (arith, least_orders batches last listed within, (least_order wave capacity batches last are within).1, some)
]

-- a batch of a good plan picks at some slot
batch_picks_some : (layout : Layout) (opening : Opening) (released : WaveHolds) (terms : Terms) (plan : WavePlan) (place : ℕ)
    → IsReleased opening released → IsPlanOf layout opening released terms plan → place < length plan.planned.batching
    → (point : Point) × Contains (batch_picks plan.wave (batch_at plan.planned.batching place)) point
batch_picks_some layout opening released terms plan place out good within =
    let batch = batch_at plan.planned.batching place in
    let order = slice_index batch 0 in
    let least = least_order plan.wave terms.capacity plan.planned.batching place good.good.sound.batching within in
    let below : order < length released.orders = omega (arith, least.1, good.wave.orders) in
    let has = out.listed.filled order below in
    let in_row : has.0.row < length opening.stock.rows =
    (All-contains (IsHoldWithin (length released.orders) (length opening.stock.rows)) released.holds has.0 out.listed.within has.1).1 in
    let row = within_some opening.stock.rows has.0.row in_row in
    let point = slot_at row.0.location in
    let picked : Contains (picks_of plan.wave order) point =
    (good.wave.picks order point below).1 (record { hold = has.0; held = has.1; of_order = has.2; row = row.0; in_row = row.1; lies = refl }) in (
      point,
      Contains-from_among (batch_picks plan.wave batch) point
          (among-flat_map (picks_of plan.wave) batch order point (among_from_Contains batch order least.0)
          (among_from_Contains (picks_of plan.wave order) point picked)),
    )

-- so each of its tours goes somewhere
pub each_goes : (layout : Layout) (opening : Opening) (released : WaveHolds) (terms : Terms) (plan : WavePlan) → IsReleased opening released
    → IsPlanOf layout opening released terms plan → All (GoesSomewhere plan.wave) plan.planned.batching
each_goes layout opening released terms plan out good = λ place none within.
    let batch = batch_at plan.planned.batching place in
    let slots = batches_slots layout opening released terms plan out good place [] within in
    let some = batch_picks_some layout opening released terms plan place out good within in
    subst (GoesSomewhere plan.wave) (get_or_default plan.planned.batching place [] none within)
    (λ total is. some_length plan.wave.layout (batch_picks plan.wave batch) some.0 total slots.ranges (slots.slots some.0 some.1) some.1 is)
