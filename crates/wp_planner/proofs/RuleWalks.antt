-- The walk of a rule hangs on which points are picked, and on nothing else of the picks.
use Rattle.std.proofs.Common.{◌≡◌, ◌↔◌, ℕ, ◌==◌, Bool, true, false, List, [], ◌∷◌, ◌++◌, Contains, filter, ◌+◌, ◌-◌, ◌≤◌, ap, ap₂, refl, reverse, ◌∙◌, subst}
use Rattle.std.proofs.Math.Path.{fun_ext}
use Rattle.std.proofs.lemmas.List.Folds.{Any-from_list_any, list_any-from_Any}
use Rattle.std.specs.List.{flat_map, list_any, range_with_len}
use Rattle.wp_lengths.proofs.Unions.{same_tour}
use Rattle.wp_lengths.specs.Lengths.{IsLengthOf, batch_picks}
use Rattle.wp_lengths.specs.Waves.{WavePicks}
use Rattle.wp_graph.proofs.PointTests.{same_tests}
use Rattle.wp_graph.specs.PickSets.{AreSlots}
use Rattle.wp_graph.specs.Required.{has_point, is_at}
use Rattle.wp_model.specs.Tours.{IsTour}
use Rattle.wp_model.specs.Warehouse.{Layout, back_end, depot_point}
use Rattle.wp_model.specs.declared.point.Point.{Point}
use Rattle.wp_rules.proofs.RuleTours.{rule_tour}
use Rattle.wp_rules.specs.Rules.{around, around_gaps, deepest_where, far, far_part, from_far, from_home, home, home_part, in_turn, is_picked, last_of}
use Rattle.wp_rules.specs.Rules.{picked_aisles, place_of, return_stops, stops_between, through, walk_of_rule, widest_where}
use Rattle.wp_rules.specs.Straight.{past}
use Rattle.wp_rules.specs.declared.rule.Rule.{Rule}
use Rattle.wp_rules.specs.declared.rule.Rule.TheVariants.{SShape, Return, LargestGap}
use Rattle.wp_planner.specs.Sheets.{IsRuleLength}

-- a test that some point of a list passes is passed by some point of each list with all its points
any_of_more : (test : Point → Bool) (fewer more : List Point) → ((p : Point) → Contains fewer p → Contains more p) → list_any test fewer ≡ true
    → list_any test more ≡ true
any_of_more test fewer more within passed =
    let one = Any-from_list_any test fewer passed in
    let there = within one.1 (one.0, one.2, one.3) in
    list_any-from_Any test more (there.0, one.1, there.1, there.2, one.4)

module _ (layout : Layout) (picks other : List Point) (same : (p : Point) → Contains picks p ↔ Contains other p) where
  any_same : (test : Point → Bool) → list_any test picks ≡ list_any test other
  any_same test =
      same_tests (list_any test picks) (list_any test other) (any_of_more test picks other (λ p. (same p).0)) (any_of_more test other picks (λ p. (same p).1))

  -- the same slots are picked, and the same aisles have picks
  picked_same : (aisle : ℕ) → is_picked layout picks aisle ≡ is_picked layout other aisle
  unfolding has_point
  picked_same aisle = fun_ext (λ depth. any_same (is_at aisle (place_of layout.end (back_end layout) depth)))

  aisles_same : picked_aisles layout picks ≡ picked_aisles layout other
  aisles_same =
      ap (λ (test : ℕ → Bool). filter test (range_with_len 1 layout.aisles)) (fun_ext (λ aisle. any_same (λ (point : Point). point.aisle == aisle)))

  -- so each aisle is served by the same stops
  return_same : return_stops layout picks ≡ return_stops layout other
  return_same = fun_ext (λ aisle. ap (λ (test : ℕ → Bool). from_home layout aisle (deepest_where test layout.slots)) (picked_same aisle))

  home_same : home_part layout picks ≡ home_part layout other
  home_same = fun_ext (λ aisle. ap (λ (test : ℕ → Bool). from_home layout aisle (widest_where layout test 0 1 layout.slots).shallow) (picked_same aisle))

  far_same : far_part layout picks ≡ far_part layout other
  far_same = fun_ext (λ aisle. ap (λ (test : ℕ → Bool). from_far layout aisle (widest_where layout test 0 1 layout.slots).deep) (picked_same aisle))

  in_turn_same : (aisles : List ℕ) → in_turn layout picks aisles ≡ in_turn layout other aisles
  unfolding in_turn
  in_turn_same aisles = rw return_same

  through_same : (aisles : List ℕ) → through layout picks false aisles ≡ through layout other false aisles
  unfolding through
  through_same [] = refl
  through_same (aisle ∷ []) = ap (λ (stops : ℕ → List Point). stops aisle) return_same
  through_same (aisle ∷ next ∷ aisles) =
      ap (λ (stops : List Point). home layout aisle ∷ far layout aisle ∷ far layout next ∷ home layout next ∷ stops) (through_same aisles)

  around_same : (first last : ℕ) → around layout picks first last ≡ around layout other first last
  unfolding around
  around_same first last =
      let between = range_with_len (first + 1) (last - first - 1) in
      ap₂ (λ (ahead : List Point) (behind : List Point). (home layout first ∷ far layout first ∷ ahead) ++ (far layout last ∷ home layout last ∷ behind))
      (ap (λ (part : ℕ → List Point). flat_map part between) far_same) (ap (λ (part : ℕ → List Point). flat_map part (reverse between)) home_same)

  around_gaps_same : (aisles : List ℕ) → around_gaps layout picks aisles ≡ around_gaps layout other aisles
  unfolding around_gaps
  around_gaps_same [] = refl
  around_gaps_same (first ∷ []) = ap (λ (stops : ℕ → List Point). stops first) return_same
  around_gaps_same (first ∷ next ∷ aisles) = around_same first (last_of next aisles)

  between_same : (rule : Rule) → stops_between layout picks rule ≡ stops_between layout other rule
  between_same SShape = ap (λ (aisles : List ℕ). through layout picks false aisles) aisles_same ∙ through_same (picked_aisles layout other)
  between_same Return = ap (λ (aisles : List ℕ). in_turn layout picks aisles) aisles_same ∙ in_turn_same (picked_aisles layout other)
  between_same LargestGap = ap (λ (aisles : List ℕ). around_gaps layout picks aisles) aisles_same ∙ around_gaps_same (picked_aisles layout other)

-- a rule walks the same way past the same picks in another list
pub same_rule_walk : (layout : Layout) (picks other : List Point) (rule : Rule) → ((p : Point) → Contains picks p ↔ Contains other p)
    → walk_of_rule layout picks rule ≡ walk_of_rule layout other rule
same_rule_walk layout picks other rule same =
    ap (λ (stops : List Point). depot_point layout ∷ past (depot_point layout) (stops ++ depot_point layout ∷ [])) (between_same layout picks other same rule)

-- a rule's tour past all that a batch picks, in any list, is its tour past the batch's picks
pub rule_tour_of : (wave : WavePicks) (batch : List ℕ) (layout : Layout) (points : List Point) (rule : Rule) (total : ℕ) → layout ≡ wave.layout
    → ((p : Point) → Contains points p ↔ Contains (batch_picks wave batch) p) → IsTour layout points (walk_of_rule layout points rule) total
    → IsTour wave.layout (batch_picks wave batch) (walk_of_rule wave.layout (batch_picks wave batch) rule) total
rule_tour_of wave batch layout points rule total is same tour =
    let here = subst (λ (l : Layout). IsTour l points (walk_of_rule l points rule) total) is tour in
    subst (λ (walk : List Point). IsTour wave.layout (batch_picks wave batch) walk total)
    (same_rule_walk wave.layout points (batch_picks wave batch) rule same)
    (same_tour wave.layout points (batch_picks wave batch) (walk_of_rule wave.layout points rule) total (λ p. (same p).1) here)

-- each rule has a tour past what a batch picks
pub rule_walk_there : (wave : WavePicks) (batch : List ℕ) (rule : Rule) → AreSlots wave.layout (batch_picks wave batch)
    → (total : ℕ) × IsTour wave.layout (batch_picks wave batch) (walk_of_rule wave.layout (batch_picks wave batch) rule) total
rule_walk_there wave batch rule slots = (_, rule_tour wave.layout (batch_picks wave batch) rule slots)

-- the length that is told of a rule is that of its walk past what a batch picks, and no less than that of a shortest tour
pub told_length : (wave : WavePicks) (batch : List ℕ) (layout : Layout) (points : List Point) (rule : Rule) (shortest total : ℕ) → layout ≡ wave.layout
    → ((p : Point) → Contains points p ↔ Contains (batch_picks wave batch) p) → IsLengthOf wave batch shortest
    → IsTour layout points (walk_of_rule layout points rule) total → IsRuleLength wave batch rule total × (shortest ≤ total)
told_length wave batch layout points rule shortest total is same least told =
    let tour = rule_tour_of wave batch layout points rule total is same told in
    (tour, least.least (walk_of_rule wave.layout (batch_picks wave batch) rule) total tour)
