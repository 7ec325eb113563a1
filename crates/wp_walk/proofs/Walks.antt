-- A walk, aisle by aisle: what is walked is the part of a tour.
use Rattle.std.proofs.Common.{◌≡◌, ℕ, zero, suc, ◌+◌, ◌-◌, ◌*◌, ◌<◌, ◌≤◌, IsTrue, List, ◌∷◌, ◌++◌, inl, take, drop, Some, Result, Ok, Err, IfOk, arith, refl}
use Rattle.std.proofs.Common.{sym, ◌∙◌, ap, subst}
use Rattle.std.proofs.lemmas.Option.{same_Some}
use Rattle.wp_model.specs.declared.point.Point.{Point}
use Rattle.wp_model.specs.Warehouse.{Layout, IsUpTo, depot_point, spacing_after}
use Rattle.wp_graph.specs.AisleLengths.{ways_of}
use Rattle.wp_graph.specs.PickSets.{AreSlots}
use Rattle.wp_classes.specs.declared.class.Class.{Class}
use Rattle.wp_classes.specs.declared.class.Class.TheVariants.{EE1, EE2, E01, UU1, Z00, ZE1}
use Rattle.wp_classes.specs.declared.class.Cross.{Cross}
use Rattle.wp_classes.specs.declared.class.Way.{Way}
use Rattle.wp_classes.specs.declared.class.Way.TheVariants.{Back, Double, Front, Gap, Pass, Skip}
use Rattle.wp_classes.specs.Choices.{ComesOn, ComesTo, IsAllowed, Route, TakesCross, TakesWay, block_of}
use Rattle.wp_classes.specs.Parts.{Part, round_points, round_start}
use Rattle.wp_classes.specs.Tables.{class_after_cross, class_after_way, copies, is_whole, way_length}
use Rattle.wp_classes.proofs.Routes.{comes_earlier, comes_on, comes_same}
use Rattle.wp_classes.proofs.TourParts.{cross_part, way_part}
use Rattle.wp_classes.proofs.Rounds.{needed_aisle, tour_turned, whole_round}
use Rattle.wp_classes.specs.Paths.{On, after_moves}
use Rattle.wp_classes.specs.Rounds.{IsPart, IsRound}
use Rattle.wp_model.specs.Tours.{IsTour}
use Rattle.wp_walk.specs.declared.walk.Walked.{Walked}
use Rattle.wp_walk.specs.WalkedParts.{IsStep, IsStepped, IsWalked, TakesAisle}

-- a property that follows from one that an `Ok` has is had by it too
pub if_ok_then : {T E : Type 0} (result : Result T E) (P Q : T → Type 0) → ((v : T) → P v → Q v) → IfOk result P → IfOk result Q
if_ok_then (Ok v) P Q then h = then v h
if_ok_then (Err e) P Q then h = tt

-- each way may be the first
pub first_allowed : (way : Way) → (next : Class) × (class_after_way Z00 way ≡ Some next)
first_allowed Pass = (UU1, refl)
first_allowed Back = (E01, refl)
first_allowed Front = (ZE1, refl)
first_allowed Gap = (EE2, refl)
first_allowed Double = (EE1, refl)
first_allowed Skip = (Z00, refl)

-- no path is the part of a tour before the first aisle
pub none_part : (layout : Layout) (picks : List Point) (part : Part) → AreSlots layout picks → IsPart layout picks 1 0 Z00 part 0
none_part layout picks part are = record { shape = refl; serves = λ p needed high. absurd (omega (arith, (needed_aisle layout picks p are needed).0)) }

-- with a way that the tables allow
taken : (layout : Layout) (picks : List Point) (aisle upto : ℕ) (way : Way) (before after : Walked) (next : Class) (total w : ℕ) → IsUpTo layout.aisles aisle
    → aisle ≡ suc upto → IsPart layout picks aisle upto before.class before.paths total →
    TakesWay (ways_of layout picks aisle) way before.class next w → TakesAisle layout picks aisle way before after → (after.class ≡ next)
    × IsWalked layout picks aisle after (total + w)
taken layout picks aisle upto way before after next total w within behind part takes is =
    let same : next ≡ after.class = same_Some _ _ (sym takes.allowed ∙ is.class) in
    let made = way_part layout picks aisle upto is.near is.far before.class next way before.paths total w
    (record { are = is.slots; within = within; behind = behind; part_is = part; turns = is.turns }) takes in (
      sym same,
      record {
        slots = is.slots;
        part = subst (λ (c : Class). IsPart layout picks aisle aisle c after.paths (total + w)) same
            (subst (λ (p : Part). IsPart layout picks aisle aisle next p (total + w)) (sym is.paths) made);
      },
    )

-- what is walked of the first aisle is the part of a tour, as long as the way through it
pub first_walked : (layout : Layout) (picks : List Point) (way : Way) (none after : Walked) (class : Class) (total : ℕ) → none.class ≡ Z00
    → TakesWay (ways_of layout picks 1) way Z00 class total → TakesAisle layout picks 1 way none after →
    (after.class ≡ class) × IsWalked layout picks 1 after total
first_walked layout picks way none after class total begins takes is =
    let start = none_part layout picks none.paths is.slots in
    let sum : 0 + total ≡ total = omega arith in
    let made = taken layout picks 1 0 way none after class 0 total (omega arith, is.slots.ranges.aisles.0) refl
    (subst (λ (c : Class). IsPart layout picks 1 0 c none.paths 0) (sym begins) start)
    (subst (λ (c : Class). TakesWay (ways_of layout picks 1) way c class total) (sym begins) takes) is in
    (made.0, subst (λ (t : ℕ). IsWalked layout picks 1 after t) sum made.1)

-- what is walked with one more aisle is the part of a tour, longer by the crossing and by the way
pub next_walked : (layout : Layout) (picks : List Point) (left : ℕ) (cross : Cross) (way : Way) (before after : Walked) (between next : Class)
    (so_far across through : ℕ) → 1 ≤ left → left < layout.aisles → IsWalked layout picks left before so_far →
    TakesCross (spacing_after layout left) cross before.class between across → TakesWay (ways_of layout picks (suc left)) way between next through
    → IsStepped layout picks left cross way before after →
    (after.class ≡ next) × IsWalked layout picks (suc left) after (so_far + across + through)
next_walked layout picks left cross way before after between next so_far across through low high walked crosses takes is =
    let same : between ≡ is.crossed.class = same_Some _ _ (sym crosses.allowed ∙ is.crosses) in
    let crossed = cross_part layout picks left before.class between cross before.paths so_far across low high walked.part crosses in
    let part : IsPart layout picks (suc left) left is.crossed.class is.crossed.paths (so_far + across) =
    subst (λ (c : Class). IsPart layout picks (suc left) left c is.crossed.paths (so_far + across)) same
    (subst (λ (p : Part). IsPart layout picks (suc left) left between p (so_far + across)) (sym is.paths) crossed) in
    let aisle : left + 1 ≡ suc left = omega arith in
    taken layout picks (suc left) left way is.crossed after next (so_far + across) through (omega arith, high) refl part
    (subst (λ (c : Class). TakesWay (ways_of layout picks (suc left)) way c next through) same takes)
    (subst (λ (a : ℕ). TakesAisle layout picks a way is.crossed after) aisle is.takes)

-- the first way of a choice that the tables allow
pub first_takes : (layout : Layout) (picks : List Point) (route : Route) (total : ℕ) → IsAllowed layout picks route total → (class : Class) × (t : ℕ)
    × TakesWay (ways_of layout picks 1) (route.way 1) Z00 class t
first_takes layout picks route total allowed =
    let all : layout.aisles - 1 ≡ 0 + (layout.aisles - 1) = omega arith in
    comes_earlier (block_of layout picks) route 0 (layout.aisles - 1) allowed.class total
    (subst (λ (n : ℕ). ComesTo (block_of layout picks) route n allowed.class total) all allowed.comes)

-- what has been walked, as far as the route has come
pub record IsUnderway (layout : Layout) (picks : List Point) (route : Route) (left : ℕ) (walked : Walked) : Type 0 where
  pub so_far : ℕ
  pub comes : ComesTo (block_of layout picks) route (left - 1) walked.class so_far
  pub walked_is : IsWalked layout picks left walked so_far

-- what is walked of the first aisle is as far as the route has come there
pub underway_first : (layout : Layout) (picks : List Point) (route : Route) (walked : Walked) (class : Class) (t : ℕ)
    → TakesWay (ways_of layout picks 1) (route.way 1) Z00 class t → (walked.class ≡ class) × IsWalked layout picks 1 walked t →
    IsUnderway layout picks route 1 walked
underway_first layout picks route walked class t takes is = record {
  so_far = t;
  comes = subst (λ (c : Class). TakesWay (ways_of layout picks 1) (route.way 1) Z00 c t) (sym is.0) takes;
  walked_is = is.1;
}

-- the next step of a route
pub route_step : (layout : Layout) (picks : List Point) (route : Route) (left : ℕ) (walked : Walked) (total : ℕ) → IsAllowed layout picks route total → 1 ≤ left
    → left < layout.aisles → (u : IsUnderway layout picks route left walked) →
    (more : ℕ) × (left ≡ suc more) × ComesOn (block_of layout picks) route more walked.class u.so_far
route_step layout picks route zero walked total allowed low high u = absurd (omega arith)
route_step layout picks route (suc more) walked total allowed low high u =
    let back : suc more - 1 ≡ more = omega arith in (
      more,
      refl,
      comes_on (block_of layout picks) route more (layout.aisles - 1) walked.class allowed.class u.so_far total (omega arith)
          (rw back at u.comes) allowed.comes,
    )

-- the tables allow the next crossing and way of a route from the class to which it has come
pub step_allowed : (layout : Layout) (picks : List Point) (route : Route) (left : ℕ) (walked : Walked) (cross : Cross) (way : Way) (total : ℕ)
    → IsAllowed layout picks route total → 1 ≤ left → left < layout.aisles → IsUnderway layout picks route left walked →
    cross ≡ route.cross left → way ≡ route.way (left + 1) → IsStep layout picks left cross way walked.class
step_allowed layout picks route left walked cross way total allowed low high u cross_is way_is =
    go (route_step layout picks route left walked total allowed low high u)
  where
    go : (more : ℕ) × (left ≡ suc more) × ComesOn (block_of layout picks) route more walked.class u.so_far → IsStep layout picks left cross way walked.class
    go (more, is, on) =
        let there : cross ≡ route.cross (suc more) = cross_is ∙ ap route.cross is in
        let next : left + 1 ≡ suc (suc more) = omega (arith, is) in
        let through : way ≡ route.way (suc (suc more)) = way_is ∙ ap route.way next in
        record {
          between = on.between;
          next = on.next;
          length = on.through;
          crosses = ap (λ (x : Cross). class_after_cross walked.class x) there ∙ on.crosses.allowed;
          allowed = ap (λ (w : Way). class_after_way on.between w) through ∙ on.takes.allowed;
          applies = ap (λ (w : Way). way_length (ways_of layout picks (left + 1)) w) through
              ∙ ap (λ (a : ℕ). way_length (ways_of layout picks a) (route.way (suc (suc more)))) next ∙ on.takes.applies;
        }

-- what is walked with the next crossing and way is as far as the route has come there
pub underway_next : (layout : Layout) (picks : List Point) (route : Route) (left : ℕ) (walked after : Walked) (cross : Cross) (way : Way) (total : ℕ)
    → IsAllowed layout picks route total → 1 ≤ left → left < layout.aisles → IsUnderway layout picks route left walked →
    cross ≡ route.cross left → way ≡ route.way (left + 1) → IsStepped layout picks left cross way walked after → IsUnderway layout picks route (left + 1) after
underway_next layout picks route left walked after cross way total allowed low high u cross_is way_is stepped =
    go (route_step layout picks route left walked total allowed low high u)
  where
    go : (more : ℕ) × (left ≡ suc more) × ComesOn (block_of layout picks) route more walked.class u.so_far → IsUnderway layout picks route (left + 1) after
    go (more, is, on) =
        let next : left + 1 ≡ suc (suc more) = omega (arith, is) in
        let next' : suc left ≡ left + 1 = omega arith in
        let back : left + 1 - 1 ≡ suc more = omega (arith, is) in
        let crosses : TakesCross (spacing_after layout left) cross walked.class on.between on.across =
        record {
          allowed = ap (λ (x : Cross). class_after_cross walked.class x) (cross_is ∙ ap route.cross is) ∙ on.crosses.allowed;
          length_is = on.crosses.length_is ∙ ap (λ (x : Cross). copies x * spacing_after layout (suc more)) (sym (cross_is ∙ ap route.cross is))
              ∙ ap (λ (a : ℕ). copies cross * spacing_after layout a) (sym is);
        } in
        let takes : TakesWay (ways_of layout picks (suc left)) way on.between on.next on.through = record {
          allowed = ap (λ (w : Way). class_after_way on.between w) (way_is ∙ ap route.way next) ∙ on.takes.allowed;
          applies = ap (λ (w : Way). way_length (ways_of layout picks (suc left)) w) (way_is ∙ ap route.way next)
              ∙ ap (λ (a : ℕ). way_length (ways_of layout picks a) (route.way (suc (suc more)))) (next' ∙ next) ∙ on.takes.applies;
        } in
        let made = next_walked layout picks left cross way walked after on.between on.next u.so_far on.across on.through low high u.walked_is crosses takes
        stepped in
        record {
          so_far = u.so_far + on.across + on.through;
          comes = rw back (subst (λ (c : Class). ComesTo (block_of layout picks) route (suc more) c (u.so_far + on.across + on.through)) (sym made.0) on.comes);
          walked_is = subst (λ (a : ℕ). IsWalked layout picks a after (u.so_far + on.across + on.through)) next' made.1;
        }

-- after the last aisle there is a closed path past all that is needed, with the route's length
pub record IsDone (layout : Layout) (picks : List Point) (route : Route) (walked : Walked) (total : ℕ) : Type 0 where
  pub round : IsRound layout picks (round_start layout layout.aisles walked.class walked.paths) (round_points walked.class walked.paths) total

-- what is walked as far as the whole route comes is a round, with the route's length
pub underway_done : (layout : Layout) (picks : List Point) (route : Route) (left : ℕ) (walked : Walked) (total : ℕ) → IsAllowed layout picks route total
    → left ≡ layout.aisles → IsUnderway layout picks route left walked → IsDone layout picks route walked total
underway_done layout picks route left walked total allowed all u =
    let comes = subst (λ (a : ℕ). ComesTo (block_of layout picks) route (a - 1) walked.class u.so_far) all u.comes in
    let same = comes_same (block_of layout picks) route (layout.aisles - 1) walked.class allowed.class u.so_far total comes allowed.comes in
    let part : IsPart layout picks layout.aisles layout.aisles walked.class walked.paths total =
    subst (λ (t : ℕ). IsPart layout picks layout.aisles layout.aisles walked.class walked.paths t) same.1
    (subst (λ (a : ℕ). IsPart layout picks a a walked.class walked.paths u.so_far) all u.walked_is.part) in
    record {
      round = whole_round layout picks walked.class walked.paths total (λ p needed. (needed_aisle layout picks p u.walked_is.slots needed).1)
          (subst (λ (c : Class). IsTrue (is_whole c)) (sym same.0) allowed.whole) part;
    }

-- the depot stands in that path
pub done_home : (layout : Layout) (picks : List Point) (route : Route) (walked : Walked) (total : ℕ) (start depot : Point) (points : List Point)
    → IsDone layout picks route walked total →
    start ≡ round_start layout layout.aisles walked.class walked.paths → points ≡ round_points walked.class walked.paths → depot ≡ depot_point layout
    → On start points depot
done_home layout picks route walked total start depot points is starts all home = rw (starts, all, home) (is.round.serves (depot_point layout) (inl refl))

-- it is a tour when it begins at the depot
pub done_turned : (layout : Layout) (picks : List Point) (route : Route) (walked : Walked) (total n : ℕ) (start depot : Point) (points walk : List Point)
    → IsDone layout picks route walked total →
    start ≡ round_start layout layout.aisles walked.class walked.paths → points ≡ round_points walked.class walked.paths → depot ≡ depot_point layout
    → after_moves start points n ≡ depot → walk ≡ depot ∷ drop n points ++ take n points →
    IsTour layout picks walk total
done_turned layout picks route walked total n start depot points walk is starts all home after e =
    let there : after_moves start points n ≡ depot_point layout = after ∙ home in
    let round : IsRound layout picks start points total = rw (starts, all) is.round in
    subst (λ (xs : List Point). IsTour layout picks xs total) (sym (e ∙ ap (λ (d : Point). d ∷ drop n points ++ take n points) home))
    (tour_turned layout picks start points total n there round)
