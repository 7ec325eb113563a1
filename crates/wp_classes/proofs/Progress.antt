-- A route so far that leads on to the least length, one aisle after another.
use Rattle.std.proofs.Common.{◌≡◌, ◌≢◌, ℕ, zero, suc, ◌+◌, ◌-◌, ◌≤◌, ◌<◌, ◌==◌, List, Option, Some, None, length, get_or, set, take, arith, refl, sym, ◌∙◌}
use Rattle.std.proofs.Common.{ap, subst, ⊎_elim}
use Rattle.std.proofs.lemmas.Bool.{cases_eq, cond-false, cond-true, eq-eqb, false≢true, ne_eqb}
use Rattle.std.proofs.lemmas.List.{get_or-set_other, get_or-set_same, get_or-take, length-take-le}
use Rattle.std.proofs.lemmas.Option.{same_Some}
use Rattle.wp_model.specs.declared.point.Point.{Point}
use Rattle.wp_model.specs.Warehouse.{Layout}
use Rattle.wp_graph.specs.declared.ways.AisleWays.{AisleWays}
use Rattle.wp_classes.specs.declared.class.Class.{Class}
use Rattle.wp_classes.specs.declared.class.Class.TheVariants.{Z00}
use Rattle.wp_classes.specs.declared.class.Way.{Way}
use Rattle.wp_classes.specs.declared.class.Way.TheVariants.{Skip}
use Rattle.wp_classes.specs.declared.class.Cross.{Cross}
use Rattle.wp_classes.specs.declared.class.Cross.TheVariants.{C00}
use Rattle.wp_classes.specs.declared.lengths.OnwardLengths.{OnwardLengths}
use Rattle.wp_classes.specs.declared.tour.AisleStep.{AisleStep}
use Rattle.wp_classes.specs.Choices.{Block, Choices, ComesTo, IsChoiceOf, IsLeastRoute, Route, TakesWay, block_of, route_of}
use Rattle.wp_classes.specs.Least.{by_way, least_by_way, length_at}
use Rattle.wp_classes.specs.Onward.{AreOnward, IsLeastOf, Onward}
use Rattle.wp_classes.specs.Steps.{IsBestStep}
use Rattle.wp_classes.specs.Tables.{class_after_way, way_length}
use Rattle.wp_classes.proofs.Leasts.{least_same}
use Rattle.wp_classes.proofs.Routes.{AreAlike, IsLeastFirst, comes_alike, comes_further, least_first, least_route, some_way_on, then_takes}
use Rattle.wp_classes.proofs.BestSteps.{leads_by}

-- after the way through an aisle, a route so far has come to a class from which the least way on makes the least
-- length
pub record Progress (block : Block) (all aisle : ℕ) (route : Route) (class : Class) : Type 0 where
  pub so_far : ℕ
  pub rest : ℕ
  pub comes : ComesTo block route (aisle - 1) class so_far
  pub least_on : IsLeastOf (λ t. Onward block (all - aisle) aisle class t) (Some rest)
  pub least : IsLeastFirst block (all - 1) (Some (so_far + rest))

-- a best step keeps it so
pub progress_on : (block : Block) (all aisle : ℕ) (route next : Route) (class : Class) (after : OnwardLengths) (step : AisleStep) → 1 ≤ aisle → aisle < all
    → Progress block all aisle route class →
    AreOnward block (all - suc aisle) (suc aisle) after → IsBestStep block (all - aisle) (suc aisle) after class step
    → AreAlike (then_takes route aisle step.cross step.way) next aisle →
    Progress block all (suc aisle) next step.class
progress_on block all zero route next class after step low high so_far are best alike = absurd (omega arith)
progress_on block all (suc aisle) route next class after step low high before are best alike =
    let back : suc aisle - 1 ≡ aisle = omega arith in
    let ahead : suc (suc aisle) - 1 ≡ suc aisle = omega arith in
    let comes = rw back at before.comes in
    let crosses = rw ahead at best.crosses in
    let further = comes_further block route aisle class best.between step.class before.so_far best.across best.through step.cross step.way comes crosses
    best.takes in
    let least_there = rw ahead at best.least in
    let same = same_Some _ _ (least_same (λ t. Onward block (all - suc aisle) (suc aisle) class t) (Some before.rest)
    (Some (best.across + best.through + best.rest)) before.least_on least_there) in
    let total : before.so_far + before.rest ≡ before.so_far + best.across + best.through + best.rest = omega (arith, same) in
    record {
      so_far = before.so_far + best.across + best.through;
      rest = best.rest;
      comes = rw ahead (comes_alike block (then_takes route (suc aisle) step.cross step.way) next (suc aisle) step.class
          (before.so_far + best.across + best.through) alike further);
      least_on = subst (λ (o : Option ℕ). IsLeastOf (λ t. Onward block (all - suc (suc aisle)) (suc (suc aisle)) step.class t) o) best.known
          (are.least step.class);
      least = subst (λ (t : ℕ). IsLeastFirst block (all - 1) (Some t)) total before.least;
    }

-- arrays with one more crossing and one more way make the route that takes them
pub arrays_alike : (ways : List Way) (crosses : List Cross) (aisle : ℕ) (cross : Cross) (way : Way) → 1 ≤ aisle → aisle < length ways → aisle < length crosses →
    AreAlike (then_takes (route_of (record { ways = ways; crosses = crosses })) aisle cross way)
    (route_of (record { ways = set ways aisle way; crosses = set crosses (aisle - 1) cross })) aisle
arrays_alike ways crosses aisle cross way some room room' = record {
  ways = λ a low high. ⊎_elim
      (λ (e : a ≡ suc aisle).
      let at : a - 1 ≡ aisle = omega arith in
      cond-true (a == suc aisle) way (get_or ways (a - 1) Skip) (eq-eqb _ _ e) ∙ sym (get_or-set_same ways aisle way Skip room)
      ∙ ap (λ i. get_or (set ways aisle way) i Skip) (sym at))
      (λ (ne : a ≢ suc aisle).
      let other : a - 1 ≢ aisle = omega arith in
      cond-false (a == suc aisle) way (get_or ways (a - 1) Skip) (ne_eqb _ _ ne) ∙ sym (get_or-set_other ways aisle (a - 1) way Skip other))
      (cases_eq a (suc aisle));
  crosses = λ a low high. ⊎_elim
      (λ (e : a ≡ aisle).
      let at : a - 1 ≡ aisle - 1 = omega arith in
      let within : aisle - 1 < length crosses = omega arith in
      cond-true (a == aisle) cross (get_or crosses (a - 1) C00) (eq-eqb _ _ e) ∙ sym (get_or-set_same crosses (aisle - 1) cross C00 within)
      ∙ ap (λ i. get_or (set crosses (aisle - 1) cross) i C00) (sym at))
      (λ (ne : a ≢ aisle).
      let other : a - 1 ≢ aisle - 1 = omega arith in
      cond-false (a == aisle) cross (get_or crosses (a - 1) C00) (ne_eqb _ _ ne) ∙ sym (get_or-set_other crosses (aisle - 1) (a - 1) cross C00 other))
      (cases_eq a aisle);
}

-- the fronts of the arrays make the same route
fronts_alike : (ways : List Way) (crosses : List Cross) (more : ℕ) →
    AreAlike (route_of (record { ways = ways; crosses = crosses })) (route_of (record { ways = take (suc more) ways; crosses = take more crosses })) more
fronts_alike ways crosses more = record {
  ways = λ a low high. sym (get_or-take (suc more) ways (a - 1) Skip (omega arith));
  crosses = λ a low high. sym (get_or-take more crosses (a - 1) C00 (omega arith));
}

-- after the last aisle the arrays have a choice of the least length
pub progress_done : (layout : Layout) (picks : List Point) (aisle : ℕ) (ways : List Way) (crosses : List Cross) (class : Class) (choices : Choices)
    → 1 ≤ aisle → layout.aisles ≡ aisle →
    layout.aisles ≤ length ways → layout.aisles ≤ length crosses → choices.ways ≡ take layout.aisles ways → choices.crosses ≡ take (layout.aisles - 1) crosses →
    Progress (block_of layout picks) layout.aisles aisle (route_of (record { ways = ways; crosses = crosses })) class → (total : ℕ)
    × IsChoiceOf layout picks choices total × IsLeastRoute layout picks total
progress_done layout picks zero ways crosses class choices some all room room' ways_are crosses_are h = absurd (omega arith)
progress_done layout picks (suc more) ways crosses class choices some all room room' ways_are crosses_are h =
    let none : layout.aisles - suc more ≡ 0 = omega arith in
    let back : suc more - 1 ≡ more = omega arith in
    let back' : layout.aisles - 1 ≡ more = omega arith in
    let done = (rw none at h.least_on).0 in
    let total : h.so_far ≡ h.so_far + h.rest = omega (arith, done.1) in
    let comes = comes_alike (block_of layout picks) _ _ more class h.so_far (fronts_alike ways crosses more) (rw back at h.comes) in
    let same : choices ≡ record { ways = take (suc more) ways; crosses = take more crosses } =
    λ i. record { ways = (ways_are ∙ ap (λ n. take n ways) all) i; crosses = (crosses_are ∙ ap (λ n. take n crosses) back') i } in (
      h.so_far + h.rest,
      record {
        ways = ap length ways_are ∙ length-take-le layout.aisles ways room;
        crosses = ap length crosses_are ∙ length-take-le (layout.aisles - 1) crosses (omega (arith, room'));
        allowed = record {
          class = class;
          comes = subst (λ (t : ℕ). ComesTo (block_of layout picks) (route_of choices) (layout.aisles - 1) class t) total
              (subst (λ (n : ℕ). ComesTo (block_of layout picks) (route_of choices) n class h.so_far) (sym back')
              (subst (λ (c : Choices). ComesTo (block_of layout picks) (route_of c) more class h.so_far) (sym same) comes));
          whole = done.0;
        };
      },
      least_route layout picks (h.so_far + h.rest) h.least,
    )

-- a best first way begins so
pub progress_first : (block : Block) (all : ℕ) (after : OnwardLengths) (ways : AisleWays) (first : Way) (class : Class) (blank : List Way)
    (crosses : List Cross)
    → AreOnward block (all - 1) 1 after → ways ≡ block.ways 1 →
    by_way ways after Z00 first ≡ least_by_way ways after Z00 → class_after_way Z00 first ≡ Some class → 0 < length blank
    → Progress block all 1 (route_of (record { ways = set blank 0 first; crosses = crosses })) class
progress_first block all after ways first class blank crosses are is best leads room = go (least_by_way ways after Z00) refl
  where
    go : (least : Option ℕ) → least_by_way ways after Z00 ≡ least
        → Progress block all 1 (route_of (record { ways = set blank 0 first; crosses = crosses })) class
    go None e = absurd (false≢true (some_way_on block (all - 1) None (least_first block (all - 1) ways after None are is (sym e))))
    go (Some total) e =
        let by = leads_by ways after Z00 first total (best ∙ e) in
        let same : by.next ≡ class = same_Some _ _ (sym by.takes.allowed ∙ leads) in
        let known : length_at after class ≡ Some by.rest = subst (λ (c : Class). length_at after c ≡ Some by.rest) same by.known in
        let way : first ≡ get_or (set blank 0 first) 0 Skip = sym (get_or-set_same blank 0 first Skip room) in
        let takes : TakesWay (block.ways 1) first Z00 class by.through =
        record { allowed = leads; applies = ap (λ (w : AisleWays). way_length w first) (sym is) ∙ by.takes.applies } in
        record {
          so_far = by.through;
          rest = by.rest;
          comes = subst (λ (w : Way). TakesWay (block.ways 1) w Z00 class by.through) way takes;
          least_on = subst (λ (o : Option ℕ). IsLeastOf (λ t. Onward block (all - 1) 1 class t) o) known (are.least class);
          least = subst (λ (t : ℕ). IsLeastFirst block (all - 1) (Some t)) by.total_is (least_first block (all - 1) ways after (Some total) are is (sym e));
        }
