-- Trips: stops in line, each with the next. A trip is a path, passes what its parts pass, and trips that meet are one.
use Rattle.std.proofs.Common.{◌≡◌, ℕ, ◌≤◌, List, [], ◌∷◌, ◌++◌, All, refl, sym, ap, ◌∙◌, subst, inl, inr, ◌⊎◌}
use Rattle.std.specs.List.{flat_map}
use Rattle.std.proofs.lemmas.List.{append_assoc}
use Rattle.std.proofs.lemmas.List.Elements.{All-cons, All-nil}
use Rattle.wp_model.specs.declared.point.Point.{Point}
use Rattle.wp_model.specs.Warehouse.{IsPoint, IsUpTo, Layout, back_end}
use Rattle.wp_graph.specs.Members.{Among}
use Rattle.wp_classes.specs.Paths.{On, Path, at}
use Rattle.wp_classes.proofs.Paths.{on_first, on_second, path_join}
use Rattle.wp_rules.specs.Straight.{AreInLine, past, past_length, straight, straight_length}
use Rattle.wp_rules.proofs.Lines.{IsEndPlace, on_straight, straight_path}

-- stops from a point to another one, each in line with the next
abbrev pub Trip : Layout → Point → List Point → Point → Type 0
Trip layout from [] to = from ≡ to
Trip layout from (next ∷ stops) to = AreInLine layout from next × Trip layout next stops to

past-cons : (from next : Point) (stops : List Point) → past from (next ∷ stops) ≡ straight from next ++ past next stops
unfolding past
past-cons from next stops = refl

past-nil : (from : Point) → past from [] ≡ []
unfolding past
past-nil from = refl

pub trip_path : (layout : Layout) (from to : Point) (stops : List Point) → Trip layout from stops to
    → Path layout from (past from stops) to (past_length layout from stops)
unfolding past past_length
trip_path layout from to [] trip = (trip, refl)
trip_path layout from to (next ∷ stops) trip =
    path_join layout from next to (straight from next) (past next stops) (straight_length layout from next) (past_length layout next stops)
    (straight_path layout from next trip.0) (trip_path layout next to stops trip.1)

-- each stop of a trip is a point
pub trip_points : (layout : Layout) (from to : Point) (stops : List Point) → Trip layout from stops to → All (IsPoint layout) stops
trip_points layout from to [] trip = All-nil (IsPoint layout)
trip_points layout from to (next ∷ stops) trip =
    All-cons (IsPoint layout) next stops trip.0.to_point (trip_points layout next to stops trip.1)

pub trip_join : (layout : Layout) (from mid to : Point) (first second : List Point) → Trip layout from first mid → Trip layout mid second to
    → Trip layout from (first ++ second) to
trip_join layout from mid to [] second one two = subst (λ (p : Point). Trip layout p second to) (sym one) two
trip_join layout from mid to (next ∷ first) second one two = (one.0, trip_join layout next mid to first second one.1 two)

past_join : (layout : Layout) (from mid : Point) (first second : List Point) → Trip layout from first mid
    → past from (first ++ second) ≡ past from first ++ past mid second
unfolding past
past_join layout from mid [] second one = ap (λ (p : Point). past p second) one
past_join layout from mid (next ∷ first) second one =
    ap (λ (points : List Point). straight from next ++ points) (past_join layout next mid first second one.1)
    ∙ sym (append_assoc (straight from next) (past next first) (past mid second))

-- a point that a trip passes
abbrev pub Passes : Point → List Point → Point → Type 0
Passes from stops point = On from (past from stops) point

pub passes_first : (layout : Layout) (from mid : Point) (first second : List Point) (p : Point) → Trip layout from first mid → Passes from first p
    → Passes from (first ++ second) p
passes_first layout from mid first second p trip on =
    subst (λ (points : List Point). On from points p) (sym (past_join layout from mid first second trip))
    (on_first from (past from first) (past mid second) p on)

pub passes_second : (layout : Layout) (from mid : Point) (first second : List Point) (p : Point) → Trip layout from first mid → Passes mid second p
    → Passes from (first ++ second) p
passes_second layout from mid first second p trip on =
    subst (λ (points : List Point). On from points p) (sym (past_join layout from mid first second trip))
    (on_second layout from mid (past from first) (past mid second) (past_length layout from first) p (trip_path layout from mid first trip) on)

-- two points of an end are in line, and two of an aisle
pub along_end_line : (layout : Layout) (place a b : ℕ) → IsEndPlace layout place → place ≤ back_end layout → IsUpTo layout.aisles a → IsUpTo layout.aisles b
    → AreInLine layout (at a place) (at b place)
along_end_line layout place a b end within one two = record {
  from_point = record { aisle = one; slot = within };
  to_point = record { aisle = two; slot = within };
  line = inr (refl, end);
}

pub in_aisle_line : (layout : Layout) (aisle a b : ℕ) → IsUpTo layout.aisles aisle → a ≤ back_end layout → b ≤ back_end layout
    → AreInLine layout (at aisle a) (at aisle b)
in_aisle_line layout aisle a b within one two = record {
  from_point = record { aisle = within; slot = one };
  to_point = record { aisle = within; slot = two };
  line = inl refl;
}

-- stops that lead from wherever one is at an end to somewhere at an end
abbrev pub EndTrip : Layout → ℕ → ℕ → List Point → Type 0
EndTrip layout place last stops = (a : ℕ) → IsUpTo layout.aisles a → (b : ℕ) × IsUpTo layout.aisles b × Trip layout (at a place) stops (at b last)

-- and pass a point on the way
abbrev pub AlwaysPass : Layout → ℕ → List Point → Point → Type 0
AlwaysPass layout place stops p = (a : ℕ) → IsUpTo layout.aisles a → Passes (at a place) stops p

pub end_trip-nil : (layout : Layout) (place : ℕ) → EndTrip layout place place []
end_trip-nil layout place a within = (a, within, refl)

pub end_trip-append : (layout : Layout) (place mid last : ℕ) (first second : List Point) → EndTrip layout place mid first → EndTrip layout mid last second
    → EndTrip layout place last (first ++ second)
end_trip-append layout place mid last first second one two a within =
    let there = one a within in
    let on = two there.0 there.1 in
    (on.0, on.1, trip_join layout (at a place) (at there.0 mid) (at on.0 last) first second there.2 on.2)

pub pass-append_left : (layout : Layout) (place mid : ℕ) (first second : List Point) (p : Point) → EndTrip layout place mid first
    → AlwaysPass layout place first p → AlwaysPass layout place (first ++ second) p
pass-append_left layout place mid first second p one passes a within =
    let there = one a within in
    passes_first layout (at a place) (at there.0 mid) first second p there.2 (passes a within)

pub pass-append_right : (layout : Layout) (place mid : ℕ) (first second : List Point) (p : Point) → EndTrip layout place mid first
    → AlwaysPass layout mid second p → AlwaysPass layout place (first ++ second) p
pass-append_right layout place mid first second p one passes a within =
    let there = one a within in
    passes_second layout (at a place) (at there.0 mid) first second p there.2 (passes there.0 there.1)

pub end_trip-flat_map : (layout : Layout) (place : ℕ) (f : ℕ → List Point) (aisles : List ℕ)
    → ((aisle : ℕ) → Among aisles aisle → EndTrip layout place place (f aisle)) → EndTrip layout place place (flat_map f aisles)
end_trip-flat_map layout place f [] each = end_trip-nil layout place
end_trip-flat_map layout place f (aisle ∷ aisles) each =
    end_trip-append layout place place place (f aisle) (flat_map f aisles) (each aisle (inl refl))
    (end_trip-flat_map layout place f aisles (λ other among. each other (inr among)))

pub pass-flat_map : (layout : Layout) (place : ℕ) (f : ℕ → List Point) (aisles : List ℕ) (aisle : ℕ) (p : Point)
    → ((other : ℕ) → Among aisles other → EndTrip layout place place (f other)) → Among aisles aisle → AlwaysPass layout place (f aisle) p
    → AlwaysPass layout place (flat_map f aisles) p
pass-flat_map layout place f [] aisle p each among passes = absurd among
pass-flat_map layout place f (first ∷ aisles) aisle p each (inl e) passes =
    pass-append_left layout place place (f first) (flat_map f aisles) p (each first (inl refl))
    (subst (λ (x : ℕ). AlwaysPass layout place (f x) p) (sym e) passes)
pass-flat_map layout place f (first ∷ aisles) aisle p each (inr among) passes =
    pass-append_right layout place place (f first) (flat_map f aisles) p (each first (inl refl))
    (pass-flat_map layout place f aisles aisle p (λ other there. each other (inr there)) among passes)

-- what the way to the next stop passes, and what the further ones do
passes_head : (from next : Point) (stops : List Point) (p : Point) → On from (straight from next) p → Passes from (next ∷ stops) p
passes_head from next stops p on =
    subst (λ (points : List Point). On from points p) (sym (past-cons from next stops)) (on_first from (straight from next) (past next stops) p on)

passes_tail : (layout : Layout) (from next : Point) (stops : List Point) (p : Point) → AreInLine layout from next → Passes next stops p
    → Passes from (next ∷ stops) p
passes_tail layout from next stops p line on =
    subst (λ (points : List Point). On from points p) (sym (past-cons from next stops))
    (on_second layout from next (straight from next) (past next stops) (straight_length layout from next) p (straight_path layout from next line) on)

-- to an aisle at an end, and in it to a place
abbrev pub enter : ℕ → ℕ → ℕ → List Point
enter aisle place turn = at aisle place ∷ at aisle turn ∷ []

pub enter_trip : (layout : Layout) (aisle place turn : ℕ) → IsUpTo layout.aisles aisle → IsEndPlace layout place → place ≤ back_end layout
    → turn ≤ back_end layout → EndTrip layout place turn (enter aisle place turn)
enter_trip layout aisle place turn within end low high a here =
    (aisle, within, (along_end_line layout place a aisle end low here within, (in_aisle_line layout aisle place turn within low high, refl)))

pub enter_passes : (layout : Layout) (aisle place turn s : ℕ) → IsUpTo layout.aisles aisle → IsEndPlace layout place → place ≤ back_end layout
    → ((place ≤ s) × (s ≤ turn)) ⊎ ((turn ≤ s) × (s ≤ place)) → AlwaysPass layout place (enter aisle place turn) (at aisle s)
enter_passes layout aisle place turn s within end low between a here =
    passes_tail layout (at a place) (at aisle place) (at aisle turn ∷ []) (at aisle s) (along_end_line layout place a aisle end low here within)
    (passes_head (at aisle place) (at aisle turn) [] (at aisle s) (on_straight aisle place turn s between))

-- into an aisle from an end to a place and back
abbrev pub visit : ℕ → ℕ → ℕ → List Point
visit aisle place turn = at aisle place ∷ at aisle turn ∷ at aisle place ∷ []

pub visit_trip : (layout : Layout) (aisle place turn : ℕ) → IsUpTo layout.aisles aisle → IsEndPlace layout place → place ≤ back_end layout
    → turn ≤ back_end layout → EndTrip layout place place (visit aisle place turn)
visit_trip layout aisle place turn within end low high a here = (
  aisle,
  within,
  (
    along_end_line layout place a aisle end low here within,
    (in_aisle_line layout aisle place turn within low high, (in_aisle_line layout aisle turn place within high low, refl)),
  ),
)

pub visit_passes : (layout : Layout) (aisle place turn s : ℕ) → IsUpTo layout.aisles aisle → IsEndPlace layout place → place ≤ back_end layout
    → ((place ≤ s) × (s ≤ turn)) ⊎ ((turn ≤ s) × (s ≤ place)) → AlwaysPass layout place (visit aisle place turn) (at aisle s)
visit_passes layout aisle place turn s within end low between a here =
    passes_tail layout (at a place) (at aisle place) (at aisle turn ∷ at aisle place ∷ []) (at aisle s)
    (along_end_line layout place a aisle end low here within)
    (passes_head (at aisle place) (at aisle turn) (at aisle place ∷ []) (at aisle s) (on_straight aisle place turn s between))
