-- A whole part is a closed path past all that is needed, and makes a tour that begins at the depot.
use Rattle.std.proofs.Common.{◌≡◌, ℕ, zero, suc, ◌+◌, ◌-◌, ◌≤◌, Bool, true, false, if◌then◌else◌, IsTrue, List, [], ◌∷◌, ◌++◌, Some, None, option_map}
use Rattle.std.proofs.Common.{length, map, slice_get, take, drop, get_or, nat_le, arith, refl, sym, ◌∙◌, ap, subst, inl, inr, ◌⊎◌, ⊎_elim}
use Rattle.std.proofs.lemmas.Option.{none-some, slice_get-get_or}
use Rattle.wp_model.specs.declared.point.Point.{Point}
use Rattle.wp_model.specs.Warehouse.{Layout, IsUpTo, back_end, depot_point}
use Rattle.wp_model.specs.Warehouse.End.{at_front, at_back}
use Rattle.wp_model.specs.Tours.{IsTour, IsWalk}
use Rattle.wp_graph.specs.AisleLengths.{site_ways, ways_of}
use Rattle.wp_graph.specs.PickSets.{AreSlots}
use Rattle.wp_graph.specs.Required.{distance, largest_gap, required_places}
use Rattle.wp_graph.specs.Sites.{has_depot, site_of}
use Rattle.wp_graph.specs.Members.{Among}
use Rattle.wp_graph.proofs.Members.{Contains-from_among, among_at}
use Rattle.wp_graph.proofs.Widest.{widest}
use Rattle.wp_classes.specs.declared.class.Class.{Class}
use Rattle.wp_classes.specs.declared.class.Class.TheVariants.{UU1, E01, ZE1, EE1, EE2, Z00, Z01}
use Rattle.wp_classes.specs.declared.class.Way.{Way}
use Rattle.wp_classes.specs.declared.class.Way.TheVariants.{Pass, Back, Front, Gap, Double, Skip}
use Rattle.wp_classes.specs.Choices.{ComesTo, IsAllowed, Route, block_of}
use Rattle.wp_classes.specs.Parts.{AreNeighbours, AreTurns, Part, round_points, round_start, with_cross, with_way}
use Rattle.wp_classes.specs.Paths.{On, Path, after_moves, at}
use Rattle.wp_classes.specs.Tables.{is_whole, way_length}
use Rattle.wp_classes.specs.Rounds.{IsNeeded, IsPart, IsRound}
use Rattle.wp_classes.proofs.Paths.{on_first, on_second, path_join}
use Rattle.wp_classes.proofs.TourParts.{cross_part, way_part}

-- a part up to the last aisle whose class is that of a whole tour is a round
pub whole_round : (layout : Layout) (picks : List Point) (class : Class) (part : Part) (total : ℕ)
    → ((p : Point) → IsNeeded layout picks p → p.aisle ≤ layout.aisles) → IsTrue (is_whole class) →
    IsPart layout picks layout.aisles layout.aisles class part total
    → IsRound layout picks (round_start layout layout.aisles class part) (round_points class part) total
whole_round layout picks UU1 part total near whole is = absurd (cc)
whole_round layout picks E01 part total near whole is = record { path = is.shape; serves = λ p needed. is.serves p needed (near p needed) }
whole_round layout picks ZE1 part total near whole is = record { path = is.shape; serves = λ p needed. is.serves p needed (near p needed) }
whole_round layout picks EE1 part total near whole is = record {
  path = let joined = path_join layout _ _ _ part.first part.second is.shape.0 is.shape.1 is.shape.2 is.shape.3 in
      subst (λ (n : ℕ). Path layout (at layout.aisles (back_end layout)) (part.first ++ part.second) (at layout.aisles (back_end layout)) n)
      (sym is.shape.4) joined;
  serves = λ p needed. ⊎_elim (λ on. on_first _ part.first part.second p on) (λ on. on_second layout _ _ part.first part.second is.shape.0 p is.shape.2 on)
      (is.serves p needed (near p needed));
}
whole_round layout picks EE2 part total near whole is = absurd (cc)
whole_round layout picks Z00 part total near whole is = absurd (cc)
whole_round layout picks Z01 part total near whole is = record { path = is.shape; serves = λ p needed. is.serves p needed (near p needed) }

-- a path in two parts: each is a path, and together they are as long
pub path_split : (layout : Layout) (from to : Point) (points : List Point) (t n : ℕ) → Path layout from points to t →
    (s : ℕ) × (r : ℕ) × Path layout from (take n points) (after_moves from points n) s × Path layout (after_moves from points n) (drop n points) to r
    × (t ≡ s + r)
path_split layout from to points t zero path = (0, t, (refl, refl), path, omega arith)
path_split layout from to [] t (suc n) path = (0, t, (refl, refl), path, omega arith)
path_split layout from to (next ∷ points) t (suc n) (step, rest, move, path, total) =
    let parts = path_split layout next to points rest n path in
    (step + parts.0, parts.1, (step, parts.0, move, parts.2, refl), parts.3, omega (arith, total, parts.4))

-- a point of a path lies on one of its two parts
pub on_split : (from : Point) (points : List Point) (p : Point) (n : ℕ) → On from points p → On from (take n points) p
    ⊎ On (after_moves from points n) (drop n points) p
on_split from points p zero on = inr on
on_split from [] p (suc n) on = inl on
on_split from (next ∷ points) p (suc n) (inl e) = inl (inl e)
on_split from (next ∷ points) p (suc n) (inr on) = ⊎_elim (λ here. inl (inr here)) (λ there. inr there) (on_split next points p n on)

-- a point of a path is there after some moves
pub on_after : (from : Point) (points : List Point) (p : Point) → On from points p → (n : ℕ) × (n ≤ length points) × (after_moves from points n ≡ p)
on_after from [] p on = (0, omega arith, on)
on_after from (next ∷ points) p (inl e) = (0, omega arith, e)
on_after from (next ∷ points) p (inr on) = let rest = on_after next points p on in (suc rest.0, omega (arith, rest.1), rest.2)

-- the same closed path, begun at another of its points
pub round_turned : (layout : Layout) (picks : List Point) (start : Point) (points : List Point) (total n : ℕ) → IsRound layout picks start points total →
    IsRound layout picks (after_moves start points n) (drop n points ++ take n points) total
round_turned layout picks start points total n is =
    let parts = path_split layout start start points total n is.path in
    let turned : parts.1 + parts.0 ≡ total = omega (arith, parts.4) in
    let mid = after_moves start points n in
    record {
      path = subst (λ (t : ℕ). Path layout mid (drop n points ++ take n points) mid t) turned
          (path_join layout mid start mid (drop n points) (take n points) parts.1 parts.0 parts.3 parts.2);
      serves = λ p needed. ⊎_elim (λ first. on_second layout mid start (drop n points) (take n points) parts.1 p parts.3 first)
          (λ second. on_first mid (drop n points) (take n points) p second) (on_split start points p n (is.serves p needed));
    }

-- a closed path from the depot is a tour
walk_of_path : (layout : Layout) (from to : Point) (points : List Point) (t : ℕ) → Path layout from points to t → IsWalk layout (from ∷ points) t
walk_of_path layout from to [] t path = path.1
walk_of_path layout from to (next ∷ points) t (step, rest, move, path, total) = (step, rest, move, walk_of_path layout next to points rest path, total)

last_of_path : (layout : Layout) (from to : Point) (points : List Point) (t : ℕ) → Path layout from points to t
    → slice_get (from ∷ points) (length (from ∷ points) - 1) ≡ Some to
last_of_path layout from to [] t path = ap (λ (p : Point). Some p) path.0
last_of_path layout from to (next ∷ points) t (step, rest, move, path, total) =
    let back : length (from ∷ next ∷ points) - 1 ≡ suc (length (next ∷ points) - 1) = omega arith in
    ap (λ i. slice_get (from ∷ next ∷ points) i) back ∙ last_of_path layout next to points rest path

contains_on : (from : Point) (points : List Point) (p : Point) → On from points p → Among (from ∷ points) p
contains_on from [] p on = inl on
contains_on from (next ∷ points) p (inl e) = inl e
contains_on from (next ∷ points) p (inr on) = inr (contains_on next points p on)

-- a round that begins at the depot is a tour
pub tour_of_round : (layout : Layout) (picks points : List Point) (total : ℕ) → IsRound layout picks (depot_point layout) points total
    → IsTour layout picks (depot_point layout ∷ points) total
tour_of_round layout picks points total is = record {
  closed = record {
    begins = refl;
    ends = last_of_path layout (depot_point layout) (depot_point layout) points total is.path;
    goes = walk_of_path layout (depot_point layout) (depot_point layout) points total is.path;
  };
  serves = λ k d within. Contains-from_among (depot_point layout ∷ points) (get_or picks k d)
      (contains_on (depot_point layout) points (get_or picks k d) (is.serves (get_or picks k d) (inr (among_at picks k (get_or picks k d) d within refl))));
}

back_turn : (f d : ℕ → ℕ) (in_front : Bool) (places : List ℕ) (w : ℕ) → (if in_front then None else option_map f (slice_get (map d places) 0)) ≡ Some w
    → (near : ℕ) × (far : ℕ) × (slice_get places 0 ≡ Some far)
back_turn f d true places w e = absurd (none-some _ e)
back_turn f d false [] w e = absurd (none-some _ e)
back_turn f d false (x ∷ places) w e = (0, x, refl)

front_turn : (f d : ℕ → ℕ) (behind : Bool) (places : List ℕ) (w : ℕ) →
    (if behind then None else option_map f (slice_get (map d places) (length (map d places) - 1))) ≡ Some w → (near : ℕ) × (far : ℕ)
    × (slice_get places (length places - 1) ≡ Some near)
front_turn f d true places w e = absurd (none-some _ e)
front_turn f d false [] w e = absurd (none-some _ e)
front_turn f d false (x ∷ places) w e =
    (get_or (x ∷ places) (length (x ∷ places) - 1) 0, 0, slice_get-get_or (x ∷ places) (length (x ∷ places) - 1) 0 (omega arith))

gap_turn : (x : ℕ) (d : ℕ → ℕ) (places : List ℕ) (w : ℕ) → (if nat_le 2 (length (map d places)) then Some x else None) ≡ Some w →
    (near : ℕ) × (far : ℕ) × (AreNeighbours places near far × (d far - d near ≡ largest_gap (map d places)))
gap_turn x d [] w e = absurd (none-some _ e)
gap_turn x d (a ∷ []) w e = absurd (none-some _ e)
gap_turn x d (a ∷ b ∷ places) w e = let found = widest d a b places in
    (found.near, found.far, (record { before = found.before; after = found.after; places_are = found.places_are }, found.gap_is))

-- a way that applies turns somewhere
pub some_turns : (layout : Layout) (picks : List Point) (aisle : ℕ) (way : Way) (w : ℕ) → way_length (ways_of layout picks aisle) way ≡ Some w → (near : ℕ)
    × (far : ℕ) × AreTurns layout picks aisle way near far
unfolding site_ways
some_turns layout picks aisle Pass w e = (0, 0, tt)
some_turns layout picks aisle Back w e = back_turn _ (distance layout) (has_depot (site_of layout) aisle at_front) (required_places layout picks aisle) w e
some_turns layout picks aisle Front w e = front_turn _ (distance layout) (has_depot (site_of layout) aisle at_back) (required_places layout picks aisle) w e
some_turns layout picks aisle Gap w e = gap_turn _ (distance layout) (required_places layout picks aisle) w e
some_turns layout picks aisle Double w e = (0, 0, tt)
some_turns layout picks aisle Skip w e = (0, 0, tt)

-- what is needed lies in an aisle of the layout
pub needed_aisle : (layout : Layout) (picks : List Point) (p : Point) → AreSlots layout picks → IsNeeded layout picks p → IsUpTo layout.aisles p.aisle
needed_aisle layout picks p are needed =
    ⊎_elim
    (λ (e : depot_point layout ≡ p). subst (λ (q : Point). IsUpTo layout.aisles q.aisle) e are.ranges.depot)
    (λ (h : Among picks p). (are.slots p (Contains-from_among picks p h)).aisle)
    needed

-- where a route comes, its part is
pub part_of_route : (layout : Layout) (picks : List Point) (route : Route) (more : ℕ) (class : Class) (total : ℕ) → AreSlots layout picks
    → suc more ≤ layout.aisles → ComesTo (block_of layout picks) route more class total →
    (part : Part) × IsPart layout picks (suc more) (suc more) class part total
part_of_route layout picks route zero class total are within takes =
    let turns = some_turns layout picks 1 (route.way 1) total takes.applies in
    let nothing : Part = record { start = depot_point layout; first = []; second = [] } in
    let none : IsPart layout picks 1 0 Z00 nothing 0 = record
    { shape = refl; serves = λ p needed high. absurd (omega (arith, (needed_aisle layout picks p are needed).0)) } in
    let part = with_way layout 1 turns.0 turns.1 Z00 (route.way 1) nothing in
    let made = way_part layout picks 1 0 turns.0 turns.1 Z00 class (route.way 1) nothing 0 total
    (record { are = are; within = (omega arith, within); behind = refl; part_is = none; turns = turns.2 }) takes in
    let sum : 0 + total ≡ total = omega arith in
    (part, subst (λ (t : ℕ). IsPart layout picks 1 1 class part t) sum made)
part_of_route layout picks route (suc more) class total are within (before, between, so_far, across, through, comes, crosses, takes, sum) =
    let left = part_of_route layout picks route more before so_far are (omega arith) comes in
    let crossed = cross_part layout picks (suc more) before between (route.cross (suc more)) left.0 so_far across (omega arith) within left.1 crosses in
    let turns = some_turns layout picks (suc (suc more)) (route.way (suc (suc more))) through takes.applies in
    let part = with_cross layout (suc more) before (route.cross (suc more)) left.0 in
    let made = way_part layout picks (suc (suc more)) (suc more) turns.0 turns.1 between class (route.way (suc (suc more))) part (so_far + across) through
    (record { are = are; within = (omega arith, within); behind = refl; part_is = crossed; turns = turns.2 }) takes in
    let next = with_way layout (suc (suc more)) turns.0 turns.1 between (route.way (suc (suc more))) part in
    (next, subst (λ (t : ℕ). IsPart layout picks (suc (suc more)) (suc (suc more)) class next t) (sym sum) made)

-- a route that the tables allow makes a tour of its length
pub tour_of_route : (layout : Layout) (picks : List Point) (route : Route) (total : ℕ) → AreSlots layout picks → IsAllowed layout picks route total
    → (points : List Point) × IsTour layout picks points total
tour_of_route layout picks route total are allowed =
    let some : suc (layout.aisles - 1) ≡ layout.aisles = omega (arith, are.ranges.aisles) in
    let made = part_of_route layout picks route (layout.aisles - 1) allowed.class total are (omega (arith, some)) allowed.comes in
    let part : IsPart layout picks layout.aisles layout.aisles allowed.class made.0 total =
    subst (λ (n : ℕ). IsPart layout picks n n allowed.class made.0 total) some made.1 in
    let round = whole_round layout picks allowed.class made.0 total (λ p needed. (needed_aisle layout picks p are needed).1) allowed.whole part in
    let start = round_start layout layout.aisles allowed.class made.0 in
    let points = round_points allowed.class made.0 in
    let home = on_after start points (depot_point layout) (round.serves (depot_point layout) (inl refl)) in
    let turned = subst (λ (p : Point). IsRound layout picks p (drop home.0 points ++ take home.0 points) total) home.2
    (round_turned layout picks start points total home.0 round) in
    (depot_point layout ∷ drop home.0 points ++ take home.0 points, tour_of_round layout picks (drop home.0 points ++ take home.0 points) total turned)

-- the same, where it begins at the depot after some moves
pub tour_turned : (layout : Layout) (picks : List Point) (start : Point) (points : List Point) (total n : ℕ) → after_moves start points n ≡ depot_point layout
    → IsRound layout picks start points total →
    IsTour layout picks (depot_point layout ∷ drop n points ++ take n points) total
tour_turned layout picks start points total n home round =
    tour_of_round layout picks (drop n points ++ take n points) total
    (subst (λ (p : Point). IsRound layout picks p (drop n points ++ take n points) total) home (round_turned layout picks start points total n round))
