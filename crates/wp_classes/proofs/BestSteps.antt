-- A best crossing and a best way after it make a best step.
use Rattle.std.proofs.Common.{◌≡◌, ℕ, suc, ◌+◌, ◌-◌, ◌*◌, true, Option, Some, None, is_some, option_and_then, option_map, arith, refl, sym, ◌∙◌, ap, subst}
use Rattle.std.proofs.lemmas.Option.{none-some, same_Some}
use Rattle.wp_graph.specs.declared.ways.AisleWays.{AisleWays}
use Rattle.wp_classes.specs.declared.class.Class.{Class}
use Rattle.wp_classes.specs.declared.class.Way.{Way}
use Rattle.wp_classes.specs.declared.class.Cross.{Cross}
use Rattle.wp_classes.specs.declared.lengths.OnwardLengths.{OnwardLengths}
use Rattle.wp_classes.specs.declared.tour.AisleStep.{AisleStep}
use Rattle.wp_classes.specs.Choices.{Block, TakesWay}
use Rattle.wp_classes.specs.Least.{by_cross, by_way, least_by_cross, least_by_way, length_at, sum_of}
use Rattle.wp_classes.specs.Onward.{AreOnward, IsLeastOf, Onward, Through}
use Rattle.wp_classes.specs.Steps.{IsBestStep}
use Rattle.wp_classes.specs.Tables.{class_after_cross, class_after_way, copies, way_length}
use Rattle.wp_classes.proofs.LeastLengths.{least_crosses, least_ways}

-- a crossing with a length leads to a class that has one
pub record Crosses (spacing : ℕ) (after : OnwardLengths) (class : Class) (cross : Cross) (total : ℕ) : Type 0 where
  pub next : Class
  pub rest : ℕ
  pub allowed : class_after_cross class cross ≡ Some next
  pub known : length_at after next ≡ Some rest
  pub total_is : total ≡ copies cross * spacing + rest

-- a crossing whose length is known leads to a class from which a length is known
pub crosses_by : (spacing : ℕ) (after : OnwardLengths) (class : Class) (cross : Cross) (total : ℕ) → by_cross spacing after class cross ≡ Some total
    → Crosses spacing after class cross total
crosses_by spacing after class cross total is = go (class_after_cross class cross) refl is
  where
    at : (next : Class) (rest : Option ℕ) → class_after_cross class cross ≡ Some next → length_at after next ≡ rest
        → option_map (λ r. copies cross * spacing + r) rest ≡ Some total → Crosses spacing after class cross total
    at next None allowed known e = absurd (none-some _ e)
    at next (Some rest) allowed known e = record { next = next; rest = rest; allowed = allowed; known = known; total_is = sym (same_Some _ _ e) }

    go : (next : Option Class) → class_after_cross class cross ≡ next
        → option_and_then (λ c. option_map (λ r. copies cross * spacing + r) (length_at after c)) next ≡ Some total → Crosses spacing after class cross total
    go None allowed e = absurd (none-some _ e)
    go (Some next) allowed e = at next (length_at after next) allowed refl e

-- a way with a length leads to a class that has one
pub record Leads (ways : AisleWays) (after : OnwardLengths) (class : Class) (way : Way) (total : ℕ) : Type 0 where
  pub next : Class
  pub through : ℕ
  pub rest : ℕ
  pub takes : TakesWay ways way class next through
  pub known : length_at after next ≡ Some rest
  pub total_is : total ≡ through + rest

-- a way whose length is known leads to a class from which a length is known
pub leads_by : (ways : AisleWays) (after : OnwardLengths) (class : Class) (way : Way) (total : ℕ) → by_way ways after class way ≡ Some total
    → Leads ways after class way total
leads_by ways after class way total is = go (class_after_way class way) refl is
  where
    at : (next : Class) (through rest : Option ℕ) → class_after_way class way ≡ Some next → way_length ways way ≡ through → length_at after next ≡ rest
        → sum_of through rest ≡ Some total → Leads ways after class way total
    at next None rest allowed applies known e = absurd (none-some _ e)
    at next (Some through) None allowed applies known e = absurd (none-some _ e)
    at next (Some through) (Some rest) allowed applies known e =
        record {
          next = next;
          through = through;
          rest = rest;
          takes = record { allowed = allowed; applies = applies };
          known = known;
          total_is = sym (same_Some _ _ e);
        }

    go : (next : Option Class) → class_after_way class way ≡ next → option_and_then (λ c. sum_of (way_length ways way) (length_at after c)) next ≡ Some total
        → Leads ways after class way total
    go None allowed e = absurd (none-some _ e)
    go (Some next) allowed e = at next (way_length ways way) (length_at after next) allowed refl refl e

-- the least lengths at hand where a step is chosen
pub record IsChoosing (block : Block) (left aisle : ℕ) (ways : AisleWays) (spacing : ℕ) (after through : OnwardLengths) (class : Class) : Type 0 where
  pub are : AreOnward block left (suc aisle) after
  pub ways_are : ways ≡ block.ways (suc aisle)
  pub spacing_is : spacing ≡ block.spacing aisle
  pub by_ways : (c : Class) → length_at through c ≡ least_by_way ways after c
  pub goes_on : (rest : ℕ) × Onward block (suc left) aisle class rest

-- the least length on from the class before the step
choosing_least : {block : Block} {left aisle : ℕ} {ways : AisleWays} {spacing : ℕ} {after through : OnwardLengths} {class : Class}
    → IsChoosing block left aisle ways spacing after through class →
    IsLeastOf (λ t. Onward block (suc left) aisle class t) (least_by_cross spacing through class)
choosing_least {block} {left} {aisle} {ways} {spacing} {after} {through} {class} h =
    let on : Class → ℕ → Type 0 = λ next rest. Onward block left (suc aisle) next rest in
    let between : (c : Class) → IsLeastOf (λ rest. Through on (block.ways (suc aisle)) c rest) (length_at through c) =
    λ c. subst (λ o. IsLeastOf (λ rest. Through on (block.ways (suc aisle)) c rest) o)
    (sym (h.by_ways c ∙ ap (λ (w : AisleWays). least_by_way w after c) h.ways_are)) (least_ways on (block.ways (suc aisle)) after c h.are.least) in
    subst (λ (s : ℕ). IsLeastOf (λ t. Onward block (suc left) aisle class t) (least_by_cross s through class)) (sym h.spacing_is)
    (least_crosses (λ c rest. Through on (block.ways (suc aisle)) c rest) (block.spacing aisle) through class between)

-- a best crossing with what it comes to
pub record IsCrossed (block : Block) (left aisle : ℕ) (spacing : ℕ) (through : OnwardLengths) (class : Class) (cross : Cross) : Type 0 where
  pub total : ℕ
  pub crosses : Crosses spacing through class cross total
  pub least : IsLeastOf (λ t. Onward block (suc left) aisle class t) (Some total)

-- a crossing of the least length comes to the least length on
pub best_crosses : {block : Block} {left aisle : ℕ} {ways : AisleWays} {spacing : ℕ} {after through : OnwardLengths} {class : Class}
    → IsChoosing block left aisle ways spacing after through class → (cross : Cross) →
    by_cross spacing through class cross ≡ least_by_cross spacing through class → IsCrossed block left aisle spacing through class cross
best_crosses {block} {left} {aisle} {ways} {spacing} {after} {through} {class} h cross best = go (least_by_cross spacing through class) refl (choosing_least h)
  where
    go : (least : Option ℕ) → least_by_cross spacing through class ≡ least → IsLeastOf (λ t. Onward block (suc left) aisle class t) least
        → IsCrossed block left aisle spacing through class cross
    go None e is = absurd (is h.goes_on.0 h.goes_on.1)
    go (Some total) e is = record { total = total; crosses = crosses_by spacing through class cross total (best ∙ e); least = is }

-- the tables allow a best crossing
pub cross_some : {block : Block} {left aisle : ℕ} {spacing : ℕ} {through : OnwardLengths} {class : Class} {cross : Cross}
    → IsCrossed block left aisle spacing through class cross → is_some (class_after_cross class cross) ≡ true
cross_some h = ap (λ (o : Option Class). is_some o) h.crosses.allowed

-- a way of the least length after a best crossing comes to the rest of its length
pub best_leads : {block : Block} {left aisle : ℕ} {ways : AisleWays} {spacing : ℕ} {after through : OnwardLengths} {class : Class}
    → IsChoosing block left aisle ways spacing after through class → {cross : Cross} →
    (crossed : IsCrossed block left aisle spacing through class cross) → (between : Class) (way : Way) → class_after_cross class cross ≡ Some between →
    by_way ways after between way ≡ least_by_way ways after between → Leads ways after between way crossed.crosses.rest
best_leads {block} {left} {aisle} {ways} {spacing} {after} {through} {class} h {cross} crossed between way there best =
    let same : crossed.crosses.next ≡ between = same_Some _ _ (sym crossed.crosses.allowed ∙ there) in
    leads_by ways after between way crossed.crosses.rest (best ∙ sym (h.by_ways between)
    ∙ subst (λ (c : Class). length_at through c ≡ Some crossed.crosses.rest) same crossed.crosses.known)

-- the tables allow a way that leads on
pub leads_some : {ways : AisleWays} {after : OnwardLengths} {class : Class} {way : Way} {total : ℕ} → Leads ways after class way total
    → is_some (class_after_way class way) ≡ true
leads_some h = ap (λ (o : Option Class). is_some o) h.takes.allowed

-- both make a best step
pub best_step_made : {block : Block} {left aisle : ℕ} {ways : AisleWays} {spacing : ℕ} {after through : OnwardLengths} {class : Class}
    → IsChoosing block left aisle ways spacing after through class → (step : AisleStep) (between : Class) →
    by_cross spacing through class step.cross ≡ least_by_cross spacing through class → class_after_cross class step.cross ≡ Some between →
    by_way ways after between step.way ≡ least_by_way ways after between → class_after_way between step.way ≡ Some step.class
    → IsBestStep block (suc left) (suc aisle) after class step
best_step_made {block} {left} {aisle} {ways} {spacing} {after} {through} {class} h step between best_across there best_through then =
    let crossed = best_crosses h step.cross best_across in
    let leads = best_leads h crossed between step.way there best_through in
    let same : leads.next ≡ step.class = same_Some _ _ (sym leads.takes.allowed ∙ then) in
    let back : suc aisle - 1 ≡ aisle = omega arith in
    let total : crossed.total ≡ copies step.cross * spacing + leads.through + leads.rest = omega (arith, crossed.crosses.total_is, leads.total_is) in
    record {
      between = between;
      across = copies step.cross * spacing;
      through = leads.through;
      rest = leads.rest;
      crosses = record { allowed = there; length_is = ap (λ s. copies step.cross * s) (h.spacing_is ∙ ap block.spacing (sym back)) };
      takes = record { allowed = then; applies = ap (λ (w : AisleWays). way_length w step.way) (sym h.ways_are) ∙ leads.takes.applies };
      known = subst (λ (c : Class). length_at after c ≡ Some leads.rest) same leads.known;
      least = rw back (subst (λ (t : ℕ). IsLeastOf (λ t. Onward block (suc left) aisle class t) (Some t)) total crossed.least);
    }
