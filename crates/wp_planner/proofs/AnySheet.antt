-- A wave that went out and has a good plan has a sheet.
use Rattle.std.proofs.Common.{ℕ, ◌+◌, All, Bool, true, false, List, [], ◌∷◌, ◌++◌, refl}
use Rattle.std.proofs.lemmas.List.Elements.{All-head, All-tail}
use Rattle.wp_lengths.specs.Batchings.{IsCost}
use Rattle.wp_lengths.specs.Lengths.{batch_picks}
use Rattle.wp_lengths.specs.Waves.{WavePicks}
use Rattle.wp_graph.specs.PickSets.{AreSlots}
use Rattle.wp_machine.specs.declared.outcome.WaveHolds.{WaveHolds}
use Rattle.wp_model.specs.Opening.{Opening, Stock}
use Rattle.wp_model.specs.Warehouse.{Layout}
use Rattle.wp_sheets.proofs.AnyPicks.{any_picks}
use Rattle.wp_rules.specs.declared.rule.Rule.TheVariants as rule
use Rattle.wp_sheets.specs.Rules.{rules_line}
use Rattle.wp_sheets.specs.Sheets.{batch_text}
use Rattle.wp_planner.specs.Plans.{IsPlanOf}
use Rattle.wp_planner.specs.Released.{IsReleased}
use Rattle.wp_planner.proofs.BatchSlots.{batches_slots}
use Rattle.wp_planner.proofs.Certified.{sheet_tells}
use Rattle.wp_planner.proofs.RuleWalks.{rule_walk_there}
use Rattle.wp_planner.specs.Sheets.{AreParts, FollowsPicks, IsBatchPart, IsSheet}
use Rattle.wp_planner.specs.Terms.{Terms}
use Rattle.wp_planner.specs.declared.planner.WavePlan.{WavePlan}

-- what follows the picks of a batch that picks at slots
any_after : (rules : Bool) (wave : WavePicks) (batch : List ℕ) (total : ℕ) → AreSlots wave.layout (batch_picks wave batch)
    → (after : List ℕ) × FollowsPicks rules wave batch total after
any_after false wave batch total slots = ([], refl)
any_after true wave batch total slots =
    let shape = rule_walk_there wave batch rule.SShape slots in
    let back = rule_walk_there wave batch rule.Return slots in
    let gap = rule_walk_there wave batch rule.LargestGap slots in (
      rules_line shape.0 back.0 gap.0 total,
      record { shape = shape.0; s_shape = shape.1; back = back.0; return = back.1; gap = gap.0; largest_gap = gap.1; is = refl },
    )

-- batches that pick at slots and cost something together have parts
any_parts : (stock : Stock) (released : WaveHolds) (wave : WavePicks) (rules : Bool) (number : ℕ) (batches : List (List ℕ)) (total : ℕ)
    → All (λ batch. AreSlots wave.layout (batch_picks wave batch)) batches → IsCost wave batches total
    → (parts : List ℕ) × AreParts stock released wave rules number batches parts
any_parts stock released wave rules number [] total slots cost = ([], refl)
any_parts stock released wave rules number (batch ∷ batches) total slots (first, rest, shortest, others, sum) =
    let P : List ℕ → Type 0 = λ batch. AreSlots wave.layout (batch_picks wave batch) in
    let picks = any_picks released.holds batch in
    let walk = shortest.some.0 in
    let lines = batch_text number released stock batch first walk picks.0 in
    let after = any_after rules wave batch first (All-head P batch batches slots) in
    let part : IsBatchPart stock released wave rules number batch (lines ++ after.0) = record {
      total = first;
      walk = walk;
      tours = record { shortest = shortest; tour = shortest.some.1 };
      lines = lines;
      are = record { picks = picks.0; by_row = picks.1; is = refl };
      after = after.0;
      follows = after.1;
      is = refl;
    } in
    let more = any_parts stock released wave rules (number + 1) batches rest (All-tail P batch batches slots) others in
    ((lines ++ after.0) ++ more.0, (lines ++ after.0, more.0, part, more.1, refl))

-- so there is a sheet
pub sheet_of_plan : (layout : Layout) (opening : Opening) (released : WaveHolds) (terms : Terms) (plan : WavePlan) (cancelled_later : Bool)
    → IsReleased opening released → IsPlanOf layout opening released terms plan → (sheet : List ℕ) × IsSheet opening released terms plan cancelled_later sheet
sheet_of_plan layout opening released terms plan cancelled_later out good =
    let slots = batches_slots layout opening released terms plan out good in
    let parts = any_parts opening.stock released plan.wave terms.rules 1 plan.planned.batching plan.planned.cost slots good.good.sound.cost in
    (_, record { parts = parts.0; are = parts.1; is = refl; certified = sheet_tells layout opening released terms plan good })
