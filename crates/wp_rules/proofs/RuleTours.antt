-- The walk of each rule is a tour: a closed walk past all picks.
use Rattle.std.proofs.Common.{◌≡◌, ℕ, zero, suc, ◌+◌, ◌-◌, ◌<◌, ◌≤◌, Bool, true, false, List, [], ◌∷◌, ◌++◌, reverse, filter, All, arith, refl, sym, ap, ◌∙◌}
use Rattle.std.proofs.Common.{subst, inl, inr}
use Rattle.std.specs.List.{flat_map, range_with_len}
use Rattle.std.proofs.lemmas.List.Sorted.{Contains-permutation, IsPermutation-reverse, IsPermutation-sym}
use Rattle.std.proofs.lemmas.Bool.Decides.{nat_tests}
use Rattle.std.proofs.lemmas.Bool.{cases_Bool, cases_eq, cond-true, cond-false}
use Rattle.wp_model.specs.declared.point.Point.{Point}
use Rattle.wp_model.specs.Tours.{IsTour}
use Rattle.wp_model.specs.Warehouse.{End, IsLayout, IsPoint, IsUpTo, Layout, back_end, depot_point, end_place}
use Rattle.wp_model.specs.Warehouse.End.{at_front, at_back}
use Rattle.wp_graph.specs.Members.{Among}
use Rattle.wp_graph.specs.PickSets.{AreSlots}
use Rattle.wp_graph.specs.Required.{has_point}
use Rattle.wp_graph.proofs.Members.{Contains-from_among, among-filter, among_from_Contains, among-range, filter_passed, range_bounds}
use Rattle.wp_graph.proofs.PointTests.{among_has}
use Rattle.wp_classes.specs.Paths.{On, Path, at}
use Rattle.wp_classes.proofs.Paths.{on_start}
use Rattle.wp_classes.proofs.Rounds.{tour_of_round}
use Rattle.wp_rules.specs.Rules.{AreAisles, around, around_gaps, far_part, has_pick, home_part, in_turn, last_of, picked_aisles, place_of, return_stops}
use Rattle.wp_rules.specs.Rules.{stops_between, stops_of, through, walk_of_rule}
use Rattle.wp_rules.specs.Straight.{past, past_length}
use Rattle.wp_rules.specs.declared.rule.Rule.{Rule}
use Rattle.wp_rules.specs.declared.rule.Rule.TheVariants.{SShape, Return, LargestGap}
use Rattle.wp_rules.proofs.Served.{IsPickAt, depth_of, depth_told, depth_within, down_passes, down_trip, far_part_trip, far_place, home_is_end, home_part_trip}
use Rattle.wp_rules.proofs.Served.{home_place, home_within, parts_pass, return_passes, return_trip, up_passes, up_trip}
use Rattle.wp_rules.proofs.Trips.{AlwaysPass, EndTrip, Trip, along_end_line, end_trip-append, end_trip-flat_map, end_trip-nil, enter, pass-append_left}
use Rattle.wp_rules.proofs.Trips.{pass-append_right, pass-flat_map, passes_first, trip_join, trip_path, trip_points}

-- the aisle of a pick has one
has_pick_of : (picks : List Point) (p : Point) → Among picks p → has_pick picks p.aisle ≡ true
has_pick_of [] p among = absurd among
has_pick_of (first ∷ picks) p (inl e) = grind (arith, nat_tests, ap (λ (q : Point). q.aisle) e)
has_pick_of (first ∷ picks) p (inr among) = grind (arith, nat_tests, has_pick_of picks p among)

-- each pick has a depth
pub pick_at : (layout : Layout) (picks : List Point) (p : Point) → AreSlots layout picks → Among picks p
    → IsPickAt layout picks p (depth_of layout.end (back_end layout) p.slot)
pick_at layout picks p slots among =
    let is = slots.slots p (Contains-from_among picks p among) in
    let depth = depth_within layout.end layout.slots p.slot is.slot in
    let told = depth_told layout.end (back_end layout) p.slot (omega (arith, is.slot.1)) in
    record {
      aisle = is.aisle;
      depth_low = depth.0;
      depth_high = depth.1;
      is = ap (λ s. at p.aisle s) told;
      picked = ap (λ s. has_point picks p.aisle s) told ∙ among_has picks p among;
    }

range_aisles : (layout : Layout) → AreAisles layout (range_with_len 1 layout.aisles)
range_aisles layout aisle among = let bounds = range_bounds 1 layout.aisles aisle among in (omega (arith, bounds), omega (arith, bounds))

pub picked_are : (layout : Layout) (picks : List Point) → AreAisles layout (picked_aisles layout picks)
picked_are layout picks aisle among = range_aisles layout aisle (filter_passed (has_pick picks) (range_with_len 1 layout.aisles) aisle among).0

-- each aisle in turn
in_turn_trip : (layout : Layout) (picks : List Point) (aisles : List ℕ) → AreAisles layout aisles
    → EndTrip layout (home_place layout) (home_place layout) (in_turn layout picks aisles)
unfolding in_turn
in_turn_trip layout picks aisles are = end_trip-flat_map layout (home_place layout) (return_stops layout picks) aisles
    (λ aisle among. return_trip layout picks aisle (are aisle among))

in_turn_passes : (layout : Layout) (picks : List Point) (aisles : List ℕ) (p : Point) (depth : ℕ) → AreAisles layout aisles → Among aisles p.aisle
    → IsPickAt layout picks p depth → AlwaysPass layout (home_place layout) (in_turn layout picks aisles) p
unfolding in_turn
in_turn_passes layout picks aisles p depth are among is = pass-flat_map layout (home_place layout) (return_stops layout picks) aisles p.aisle p
    (λ aisle there. return_trip layout picks aisle (are aisle there)) among (return_passes layout picks p depth is)

-- through the aisles
through_trip : (layout : Layout) (picks : List Point) (aisles : List ℕ) → AreAisles layout aisles
    → EndTrip layout (home_place layout) (home_place layout) (through layout picks false aisles)
unfolding through
through_trip layout picks [] are = end_trip-nil layout (home_place layout)
through_trip layout picks (aisle ∷ []) are = return_trip layout picks aisle (are aisle (inl refl))
through_trip layout picks (aisle ∷ next ∷ aisles) are =
    end_trip-append layout (home_place layout) (far_place layout) (home_place layout) (enter aisle (home_place layout) (far_place layout))
    (enter next (far_place layout) (home_place layout) ++ through layout picks false aisles) (up_trip layout aisle (are aisle (inl refl)))
    (end_trip-append layout (far_place layout) (home_place layout) (home_place layout) (enter next (far_place layout) (home_place layout))
    (through layout picks false aisles) (down_trip layout next (are next (inr (inl refl))))
    (through_trip layout picks aisles (λ other among. are other (inr (inr among)))))

through_passes : (layout : Layout) (picks : List Point) (aisles : List ℕ) (p : Point) (depth : ℕ) → AreAisles layout aisles → Among aisles p.aisle
    → IsPickAt layout picks p depth → AlwaysPass layout (home_place layout) (through layout picks false aisles) p
unfolding through
through_passes layout picks [] p depth are among is = absurd among
through_passes layout picks (aisle ∷ []) p depth are (inl e) is =
    subst (λ (a : ℕ). AlwaysPass layout (home_place layout) (return_stops layout picks a) p) (sym e) (return_passes layout picks p depth is)
through_passes layout picks (aisle ∷ []) p depth are (inr among) is = absurd among
through_passes layout picks (aisle ∷ next ∷ aisles) p depth are (inl e) is =
    pass-append_left layout (home_place layout) (far_place layout) (enter aisle (home_place layout) (far_place layout))
    (enter next (far_place layout) (home_place layout) ++ through layout picks false aisles) p (up_trip layout aisle (are aisle (inl refl)))
    (subst (λ (a : ℕ). AlwaysPass layout (home_place layout) (enter a (home_place layout) (far_place layout)) p) (sym e) (up_passes layout picks p depth is))
through_passes layout picks (aisle ∷ next ∷ aisles) p depth are (inr (inl e)) is =
    pass-append_right layout (home_place layout) (far_place layout) (enter aisle (home_place layout) (far_place layout))
    (enter next (far_place layout) (home_place layout) ++ through layout picks false aisles) p (up_trip layout aisle (are aisle (inl refl)))
    (pass-append_left layout (far_place layout) (home_place layout) (enter next (far_place layout) (home_place layout)) (through layout picks false aisles) p
    (down_trip layout next (are next (inr (inl refl))))
    (subst (λ (a : ℕ). AlwaysPass layout (far_place layout) (enter a (far_place layout) (home_place layout)) p) (sym e) (down_passes layout picks p depth is)))
through_passes layout picks (aisle ∷ next ∷ aisles) p depth are (inr (inr among)) is =
    pass-append_right layout (home_place layout) (far_place layout) (enter aisle (home_place layout) (far_place layout))
    (enter next (far_place layout) (home_place layout) ++ through layout picks false aisles) p (up_trip layout aisle (are aisle (inl refl)))
    (pass-append_right layout (far_place layout) (home_place layout) (enter next (far_place layout) (home_place layout)) (through layout picks false aisles) p
    (down_trip layout next (are next (inr (inl refl))))
    (through_passes layout picks aisles p depth (λ other there. are other (inr (inr there))) among is))

-- the same numbers are in a list that is turned round
among_turned : (aisles : List ℕ) (aisle : ℕ) → Among aisles aisle → Among (reverse aisles) aisle
among_turned aisles aisle among = among_from_Contains (reverse aisles) aisle
    (Contains-permutation aisles (reverse aisles) aisle (IsPermutation-reverse aisles) (Contains-from_among aisles aisle among))

turned_among : (aisles : List ℕ) (aisle : ℕ) → Among (reverse aisles) aisle → Among aisles aisle
turned_among aisles aisle among = among_from_Contains aisles aisle
    (Contains-permutation (reverse aisles) aisles aisle (IsPermutation-sym aisles (reverse aisles) (IsPermutation-reverse aisles))
    (Contains-from_among (reverse aisles) aisle among))

-- around the gaps of the aisles between two
abbrev between_of : ℕ → ℕ → List ℕ
between_of first last = range_with_len (first + 1) (last - first - 1)

between_are : (layout : Layout) (first last : ℕ) → IsUpTo layout.aisles last → AreAisles layout (between_of first last)
between_are layout first last high aisle among =
    let bounds = range_bounds (first + 1) (last - first - 1) aisle among in (omega (arith, bounds), omega (arith, bounds, high.1))

abbrev up_to_far : Layout → List Point → ℕ → ℕ → List Point
up_to_far layout picks first last = enter first (home_place layout) (far_place layout) ++ flat_map (far_part layout picks) (between_of first last)

abbrev down_to_home : Layout → List Point → ℕ → ℕ → List Point
down_to_home layout picks first last =
    enter last (far_place layout) (home_place layout) ++ flat_map (home_part layout picks) (reverse (between_of first last))

up_to_far_trip : (layout : Layout) (picks : List Point) (first last : ℕ) → IsUpTo layout.aisles first → IsUpTo layout.aisles last
    → EndTrip layout (home_place layout) (far_place layout) (up_to_far layout picks first last)
up_to_far_trip layout picks first last low high =
    end_trip-append layout (home_place layout) (far_place layout) (far_place layout) (enter first (home_place layout) (far_place layout))
    (flat_map (far_part layout picks) (between_of first last)) (up_trip layout first low)
    (end_trip-flat_map layout (far_place layout) (far_part layout picks) (between_of first last)
    (λ aisle among. far_part_trip layout picks aisle (between_are layout first last high aisle among)))

down_to_home_trip : (layout : Layout) (picks : List Point) (first last : ℕ) → IsUpTo layout.aisles first → IsUpTo layout.aisles last
    → EndTrip layout (far_place layout) (home_place layout) (down_to_home layout picks first last)
down_to_home_trip layout picks first last low high =
    end_trip-append layout (far_place layout) (home_place layout) (home_place layout) (enter last (far_place layout) (home_place layout))
    (flat_map (home_part layout picks) (reverse (between_of first last))) (down_trip layout last high)
    (end_trip-flat_map layout (home_place layout) (home_part layout picks) (reverse (between_of first last))
    (λ aisle among. home_part_trip layout picks aisle (between_are layout first last high aisle (turned_among (between_of first last) aisle among))))

around_trip : (layout : Layout) (picks : List Point) (first last : ℕ) → IsUpTo layout.aisles first → IsUpTo layout.aisles last
    → EndTrip layout (home_place layout) (home_place layout) (around layout picks first last)
unfolding around
around_trip layout picks first last low high =
    end_trip-append layout (home_place layout) (far_place layout) (home_place layout) (up_to_far layout picks first last)
    (down_to_home layout picks first last) (up_to_far_trip layout picks first last low high) (down_to_home_trip layout picks first last low high)

around_passes : (layout : Layout) (picks : List Point) (first last : ℕ) (p : Point) (depth : ℕ) → IsUpTo layout.aisles first → IsUpTo layout.aisles last
    → first ≤ p.aisle → p.aisle ≤ last → IsPickAt layout picks p depth → AlwaysPass layout (home_place layout) (around layout picks first last) p
unfolding around
around_passes layout picks first last p depth low high after before is =
    let far_parts = flat_map (far_part layout picks) (between_of first last) in
    let home_parts = flat_map (home_part layout picks) (reverse (between_of first last)) in
    let up = enter first (home_place layout) (far_place layout) in
    let down = enter last (far_place layout) (home_place layout) in
    let on_left = λ (passes : AlwaysPass layout (home_place layout) (up ++ far_parts) p).
    pass-append_left layout (home_place layout) (far_place layout) (up ++ far_parts) (down ++ home_parts) p
    (up_to_far_trip layout picks first last low high) passes in
    let on_right = λ (passes : AlwaysPass layout (far_place layout) (down ++ home_parts) p).
    pass-append_right layout (home_place layout) (far_place layout) (up ++ far_parts) (down ++ home_parts) p
    (up_to_far_trip layout picks first last low high) passes in
    elim (cases_eq first p.aisle) [
      | inl e ↦ on_left (pass-append_left layout (home_place layout) (far_place layout) up far_parts p (up_trip layout first low)
          (subst (λ (a : ℕ). AlwaysPass layout (home_place layout) (enter a (home_place layout) (far_place layout)) p) (sym e)
          (up_passes layout picks p depth is)))
      | inr ne ↦ elim (cases_eq last p.aisle) [
        | inl e ↦ on_right (pass-append_left layout (far_place layout) (home_place layout) down home_parts p (down_trip layout last high)
            (subst (λ (a : ℕ). AlwaysPass layout (far_place layout) (enter a (far_place layout) (home_place layout)) p) (sym e)
            (down_passes layout picks p depth is)))
        | inr ne' ↦
            let among = among-range (first + 1) (last - first - 1) p.aisle (omega (arith, ne)) (omega (arith, ne, ne')) in
            elim (parts_pass layout picks p depth is) [
              | inl from_home ↦ on_right (pass-append_right layout (far_place layout) (home_place layout) down home_parts p (down_trip layout last high)
                  (pass-flat_map layout (home_place layout) (home_part layout picks) (reverse (between_of first last)) p.aisle p
                  (λ aisle there. home_part_trip layout picks aisle (between_are layout first last high aisle
                  (turned_among (between_of first last) aisle there)))
                  (among_turned (between_of first last) p.aisle among) from_home))
              | inr from_far ↦ on_left (pass-append_right layout (home_place layout) (far_place layout) up far_parts p (up_trip layout first low)
                  (pass-flat_map layout (far_place layout) (far_part layout picks) (between_of first last) p.aisle p
                  (λ aisle there. far_part_trip layout picks aisle (between_are layout first last high aisle there)) among from_far))
            ]
      ]
    ]

-- each number is below all after it
abbrev IsRising : List ℕ → Type 0
IsRising [] = Unit {0}
IsRising (one ∷ numbers) = ((other : ℕ) → Among numbers other → one < other) × IsRising numbers

rising : (test : ℕ → Bool) (a n : ℕ) → IsRising (filter test (range_with_len a n))
rising test a zero = tt
rising test a (suc n) = elim (cases_Bool (test a)) [
  | inl passed ↦
      subst (λ (numbers : List ℕ). IsRising numbers)
      (sym (cond-true (test a) (a ∷ filter test (range_with_len (a + 1) n)) (filter test (range_with_len (a + 1) n)) passed)) (
        λ other among. let bounds = range_bounds (a + 1) n other (filter_passed test (range_with_len (a + 1) n) other among).0 in omega (arith, bounds),
        rising test (a + 1) n,
      )
  | inr failed ↦
      subst (λ (numbers : List ℕ). IsRising numbers)
      (sym (cond-false (test a) (a ∷ filter test (range_with_len (a + 1) n)) (filter test (range_with_len (a + 1) n)) failed))
      (rising test (a + 1) n)
]

pub last_among : (one : ℕ) (numbers : List ℕ) → Among (one ∷ numbers) (last_of one numbers)
last_among one [] = inl refl
last_among one (next ∷ numbers) = inr (last_among next numbers)

le-last : (one : ℕ) (numbers : List ℕ) (other : ℕ) → IsRising (one ∷ numbers) → Among (one ∷ numbers) other → other ≤ last_of one numbers
le-last one [] other rises (inl e) = omega (arith, e)
le-last one [] other rises (inr among) = absurd among
le-last one (next ∷ numbers) other rises (inl e) =
    omega (arith, e, rises.0 next (inl refl), le-last next numbers next rises.1 (inl refl))
le-last one (next ∷ numbers) other rises (inr among) = le-last next numbers other rises.1 among

first-le : (one : ℕ) (numbers : List ℕ) (other : ℕ) → IsRising (one ∷ numbers) → Among (one ∷ numbers) other → one ≤ other
first-le one numbers other rises (inl e) = omega (arith, e)
first-le one numbers other rises (inr among) = omega (arith, rises.0 other among)

around_gaps_trip : (layout : Layout) (picks : List Point) (aisles : List ℕ) → AreAisles layout aisles
    → EndTrip layout (home_place layout) (home_place layout) (around_gaps layout picks aisles)
unfolding around_gaps
around_gaps_trip layout picks [] are = end_trip-nil layout (home_place layout)
around_gaps_trip layout picks (first ∷ []) are = return_trip layout picks first (are first (inl refl))
around_gaps_trip layout picks (first ∷ next ∷ aisles) are =
    around_trip layout picks first (last_of next aisles) (are first (inl refl)) (are (last_of next aisles) (inr (last_among next aisles)))

around_gaps_passes : (layout : Layout) (picks : List Point) (aisles : List ℕ) (p : Point) (depth : ℕ) → AreAisles layout aisles → IsRising aisles
    → Among aisles p.aisle → IsPickAt layout picks p depth → AlwaysPass layout (home_place layout) (around_gaps layout picks aisles) p
unfolding around_gaps
around_gaps_passes layout picks [] p depth are rises among is = absurd among
around_gaps_passes layout picks (first ∷ []) p depth are rises (inl e) is =
    subst (λ (a : ℕ). AlwaysPass layout (home_place layout) (return_stops layout picks a) p) (sym e) (return_passes layout picks p depth is)
around_gaps_passes layout picks (first ∷ []) p depth are rises (inr among) is = absurd among
around_gaps_passes layout picks (first ∷ next ∷ aisles) p depth are rises among is =
    around_passes layout picks first (last_of next aisles) p depth (are first (inl refl)) (are (last_of next aisles) (inr (last_among next aisles)))
    (first-le first (next ∷ aisles) p.aisle rises among) (le-last first (next ∷ aisles) p.aisle rises among) is

-- the stops of a rule lead from home to home, past all picks
between_trip : (layout : Layout) (picks : List Point) (rule : Rule) → EndTrip layout (home_place layout) (home_place layout) (stops_between layout picks rule)
between_trip layout picks SShape = through_trip layout picks (picked_aisles layout picks) (picked_are layout picks)
between_trip layout picks Return = in_turn_trip layout picks (picked_aisles layout picks) (picked_are layout picks)
between_trip layout picks LargestGap = around_gaps_trip layout picks (picked_aisles layout picks) (picked_are layout picks)

aisle_picked : (layout : Layout) (picks : List Point) (p : Point) (depth : ℕ) → Among picks p → IsPickAt layout picks p depth
    → Among (picked_aisles layout picks) p.aisle
aisle_picked layout picks p depth among is =
    among-filter (has_pick picks) (range_with_len 1 layout.aisles) p.aisle (among-range 1 layout.aisles p.aisle is.aisle.0 (omega (arith, is.aisle.1)))
    (has_pick_of picks p among)

between_passes : (layout : Layout) (picks : List Point) (rule : Rule) (p : Point) (depth : ℕ) → Among picks p → IsPickAt layout picks p depth
    → AlwaysPass layout (home_place layout) (stops_between layout picks rule) p
between_passes layout picks SShape p depth among is =
    through_passes layout picks (picked_aisles layout picks) p depth (picked_are layout picks) (aisle_picked layout picks p depth among is) is
between_passes layout picks Return p depth among is =
    in_turn_passes layout picks (picked_aisles layout picks) p depth (picked_are layout picks) (aisle_picked layout picks p depth among is) is
between_passes layout picks LargestGap p depth among is =
    around_gaps_passes layout picks (picked_aisles layout picks) p depth (picked_are layout picks) (rising (has_pick picks) 1 layout.aisles)
    (aisle_picked layout picks p depth among is) is

-- the depot is the home end of its aisle
home_of_end : (end : End) (last : ℕ) → place_of end last 0 ≡ end_place last end
home_of_end at_front last = refl
home_of_end at_back last = omega arith

depot_is_home : (layout : Layout) → at layout.depot (home_place layout) ≡ depot_point layout
depot_is_home layout = ap (λ s. at layout.depot s) (home_of_end layout.end (back_end layout))

-- the stops of each rule lead from the depot to the depot
rule_trip : (layout : Layout) (picks : List Point) (rule : Rule) → AreSlots layout picks
    → Trip layout (at layout.depot (home_place layout)) (stops_between layout picks rule ++ at layout.depot (home_place layout) ∷ [])
    (at layout.depot (home_place layout))
rule_trip layout picks rule slots =
    let depot = slots.ranges.depot in
    let start = at layout.depot (home_place layout) in
    let stops = stops_between layout picks rule in
    let go = between_trip layout picks rule layout.depot depot in
    let back = along_end_line layout (home_place layout) go.0 layout.depot (home_is_end layout) (home_within layout) go.1 depot in
    trip_join layout start (at go.0 (home_place layout)) start stops (start ∷ []) go.2 (back, refl)

-- each of them is a point
pub rule_points : (layout : Layout) (picks : List Point) (rule : Rule) → AreSlots layout picks → All (IsPoint layout) (stops_of layout picks rule)
rule_points layout picks rule slots =
    let start = at layout.depot (home_place layout) in
    subst (λ (q : Point). All (IsPoint layout) (stops_between layout picks rule ++ q ∷ [])) (depot_is_home layout)
    (trip_points layout start start (stops_between layout picks rule ++ start ∷ []) (rule_trip layout picks rule slots))

pub depot_is_point : (layout : Layout) → IsLayout layout → IsPoint layout (depot_point layout)
depot_is_point layout is = subst (λ (q : Point). IsPoint layout q) (depot_is_home layout) (record { aisle = is.depot; slot = home_within layout })

-- the walk of each rule is a tour of the length of its straight ways
pub rule_tour : (layout : Layout) (picks : List Point) (rule : Rule) → AreSlots layout picks
    → IsTour layout picks (walk_of_rule layout picks rule) (past_length layout (depot_point layout) (stops_of layout picks rule))
rule_tour layout picks rule slots =
    let depot = slots.ranges.depot in
    let start = at layout.depot (home_place layout) in
    let stops = stops_between layout picks rule in
    let go = between_trip layout picks rule layout.depot depot in
    tour_of_round layout picks (past (depot_point layout) (stops_of layout picks rule)) (past_length layout (depot_point layout) (stops_of layout picks rule))
    (record {
      path = subst (λ (q : Point). Path layout q (past q (stops ++ q ∷ [])) q (past_length layout q (stops ++ q ∷ []))) (depot_is_home layout)
          (trip_path layout start start (stops ++ start ∷ []) (rule_trip layout picks rule slots));
      serves = λ p needed. elim needed [
        | inl e ↦ subst (λ (q : Point). On (depot_point layout) (past (depot_point layout) (stops_of layout picks rule)) q) e
            (on_start (depot_point layout) (past (depot_point layout) (stops_of layout picks rule)))
        | inr among ↦
            let is = pick_at layout picks p slots among in
            subst (λ (q : Point). On q (past q (stops ++ q ∷ [])) p) (depot_is_home layout)
            (passes_first layout start (at go.0 (home_place layout)) stops (start ∷ []) p go.2
            (between_passes layout picks rule p (depth_of layout.end (back_end layout) p.slot) among is layout.depot depot))
      ];
    })
