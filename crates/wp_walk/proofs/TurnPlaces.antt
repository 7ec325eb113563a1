-- The pass over the required places of an aisle, and the turns that it finds.
use Rattle.std.proofs.Common.{◌≡◌, ℕ, suc, ◌+◌, ◌-◌, ◌↔◌, ◌==◌, Bool, true, false, cond, List, [], ◌∷◌, ◌++◌, Option, Some, None, Contains, filter, length}
use Rattle.std.proofs.Common.{map, max, slice_get, leb, arith, refl, sym, ◌∙◌, ap, subst, inl, inr, ⊎_elim, append_assoc, length-append}
use Rattle.std.specs.List.{range_with_len}
use Rattle.std.proofs.lemmas.Bool.{and_from, and_parts, eq-eqb, eqb-true, false_from_ne_true, leb-false, leb-true, or_left}
use Rattle.std.proofs.lemmas.List.{append-nil, map-append}
use Rattle.std.proofs.lemmas.List.Elements.{filter-append}
use Rattle.std.proofs.lemmas.Option.{none-some}
use Rattle.wp_model.specs.declared.point.Point.{Point}
use Rattle.wp_model.specs.Warehouse.{Layout, depot_point}
use Rattle.wp_graph.specs.AisleLengths.{ways_of}
use Rattle.wp_graph.specs.Required.{distance, has_point, is_at, is_required, largest_gap, required_places, site_places}
use Rattle.wp_graph.proofs.PointTests.{among_has, has_among, same_tests}
use Rattle.wp_graph.proofs.Members.{Contains-from_among, among_from_Contains}
use Rattle.wp_graph.proofs.Places.{range_parts}
use Rattle.wp_classes.specs.declared.class.Way.{Way}
use Rattle.wp_classes.specs.declared.class.Way.TheVariants.{Pass, Back, Front, Gap, Double, Skip}
use Rattle.wp_classes.specs.Parts.{AreNeighbours, AreTurns}
use Rattle.wp_classes.specs.Tables.{way_length}
use Rattle.wp_classes.proofs.Rounds.{some_turns}
use Rattle.wp_walk.specs.declared.turns.RequiredPlaces.{RequiredPlaces}
use Rattle.wp_walk.specs.ReachedPlaces.{IsReached, Sums, first_required, reach_place}

-- the depot's place is required
pub depot_required : (layout : Layout) (picks : List Point) (aisle place : ℕ) → layout.depot ≡ aisle → (depot_point layout).slot ≡ place
    → is_required layout picks aisle place ≡ true
unfolding has_point
depot_required layout picks aisle place here end = or_left (is_at aisle place (depot_point layout)) _
    (and_from _ _ (eq-eqb _ _ here) (eq-eqb _ _ end))

-- another place is required where it is picked
pub pick_required : (layout : Layout) (picks : List Point) (aisle place : ℕ) (had : Bool)
    → (had ≡ true ↔ Contains picks (record { aisle = aisle; slot = place })) → (layout.depot ≡ aisle → (depot_point layout).slot ≡ place → ⊥)
    → had ≡ is_required layout picks aisle place
unfolding has_point
pick_required layout picks aisle place had tells elsewhere =
    let off : is_at aisle place (depot_point layout) ≡ false =
    false_from_ne_true _ (λ on. let parts = and_parts (layout.depot == aisle) ((depot_point layout).slot == place) on in
    elsewhere (eqb-true _ _ parts.0) (eqb-true _ _ parts.1)) in
    rw off (same_tests had (has_point picks aisle place)
    (λ h. among_has picks (record { aisle = aisle; slot = place }) (among_from_Contains picks _ (tells.0 h)))
    (λ h. tells.1 (Contains-from_among picks _ (has_among picks aisle place h))))

-- one more number behind the last
largest_more : (xs : List ℕ) (a b : ℕ) → largest_gap (xs ++ a ∷ b ∷ []) ≡ max (largest_gap (xs ++ a ∷ [])) (b - a)
largest_more [] a b = omega arith
largest_more (x ∷ []) a b = omega arith
largest_more (x ∷ y ∷ xs) a b = let rest = largest_more (y ∷ xs) a b in omega (arith, rest)

first_stays : (xs : List ℕ) (a b c : ℕ) → slice_get (xs ++ a ∷ []) 0 ≡ Some c → slice_get (xs ++ a ∷ b ∷ []) 0 ≡ Some c
first_stays [] a b c h = h
first_stays (x ∷ xs) a b c h = h

neighbours_stay : (places : List ℕ) (near far place : ℕ) → AreNeighbours places near far → AreNeighbours (places ++ place ∷ []) near far
neighbours_stay places near far place h = record {
  before = h.before;
  after = h.after ++ place ∷ [];
  places_are = ap (λ xs. xs ++ place ∷ []) h.places_are ∙ append_assoc h.before (near ∷ far ∷ h.after) (place ∷ []);
}

-- what some places come to, with one more place, is what they come to together
pub reached_more : (layout : Layout) (places : List ℕ) (reached : Option RequiredPlaces) (place : ℕ) → IsReached layout places reached
    → IsReached layout (places ++ place ∷ []) (reach_place layout reached place)
reached_more layout places None place is =
    subst (λ xs. IsReached layout (xs ++ place ∷ []) (reach_place layout None place)) (sym is)
    (record { before = []; ends = refl; first = refl; width = omega arith; pair = inl refl })
reached_more layout places (Some reached) place is = go (leb (d reached.far - d reached.near) (d place - d reached.last)) refl
  where
    d : ℕ → ℕ
    d s = distance layout s

    ends : places ++ place ∷ [] ≡ is.before ++ reached.last ∷ place ∷ []
    ends = ap (λ xs. xs ++ place ∷ []) is.ends ∙ append_assoc is.before (reached.last ∷ []) (place ∷ [])

    first : slice_get (places ++ place ∷ []) 0 ≡ Some reached.first
    first = ap (λ xs. slice_get xs 0) ends ∙ first_stays is.before reached.last place reached.first
        (subst (λ xs. slice_get xs 0 ≡ Some reached.first) is.ends is.first)

    gap : largest_gap (map (distance layout) (places ++ place ∷ [])) ≡ max (distance layout reached.far - distance layout reached.near)
        (distance layout place - distance layout reached.last)
    gap =
        ap (λ xs. largest_gap (map (distance layout) xs)) ends
        ∙ ap largest_gap (map-append (distance layout) is.before (reached.last ∷ place ∷ []))
        ∙ largest_more (map (distance layout) is.before) (distance layout reached.last) (distance layout place)
        ∙ ap (λ g. max g (distance layout place - distance layout reached.last))
        (ap largest_gap (sym (map-append (distance layout) is.before (reached.last ∷ [])))
        ∙ ap (λ xs. largest_gap (map (distance layout) xs)) (sym is.ends) ∙ sym is.width)

    lonely : is.before ≡ [] → leb (distance layout reached.far - distance layout reached.near) (distance layout place - distance layout reached.last) ≡ false
        → ⊥
    lonely alone narrow =
        let single : places ≡ reached.last ∷ [] = is.ends ∙ ap (λ xs. xs ++ reached.last ∷ []) alone in
        let none : distance layout reached.far - distance layout reached.near ≡ 0 = is.width ∙ ap (λ xs. largest_gap (map (distance layout) xs)) single in
        let w = leb-false _ _ narrow in omega (arith, none, w)

    go : (b : Bool) → leb (distance layout reached.far - distance layout reached.near) (distance layout place - distance layout reached.last) ≡ b →
        IsReached layout (places ++ place ∷ []) (cond b (Some (record { first = reached.first; last = place; near = reached.last; far = place }))
        (Some (record { first = reached.first; last = place; near = reached.near; far = reached.far })))
    go true wide = record {
      before = is.before ++ reached.last ∷ [];
      ends = ends ∙ sym (append_assoc is.before (reached.last ∷ []) (place ∷ []));
      first = first;
      width = let w = leb-true _ _ wide in omega (arith, gap, w);
      pair = inr (record { before = is.before; after = []; places_are = ends });
    }
    go false narrow = record {
      before = is.before ++ reached.last ∷ [];
      ends = ends ∙ sym (append_assoc is.before (reached.last ∷ []) (place ∷ []));
      first = first;
      width = let w = leb-false _ _ narrow in omega (arith, gap, w);
      pair = ⊎_elim (λ alone. absurd (lonely alone narrow)) (λ pair. inr (neighbours_stay places reached.near reached.far place pair)) is.pair;
    }

-- one more place that is looked at
pub looked_more : (layout : Layout) (picks : List Point) (aisle n : ℕ)
    → first_required layout picks aisle (n + 1) ≡ first_required layout picks aisle n ++ cond (is_required layout picks aisle n) (n ∷ []) []
looked_more layout picks aisle n =
    let test = is_required layout picks aisle in
    let zero_add : 0 + n ≡ n = omega arith in
    ap (filter test) (range_parts 0 n 1) ∙ filter-append test (range_with_len 0 n) (range_with_len (0 + n) 1)
    ∙ ap (λ a. filter test (range_with_len 0 n) ++ filter test (range_with_len a 1)) zero_add

-- where the next place is required, the pass takes it in
pub looked_yes : (layout : Layout) (picks : List Point) (aisle n : ℕ) (reached : Option RequiredPlaces) → is_required layout picks aisle n ≡ true
    → IsReached layout (first_required layout picks aisle n) reached →
    IsReached layout (first_required layout picks aisle (n + 1)) (reach_place layout reached n)
looked_yes layout picks aisle n reached on is =
    let more = looked_more layout picks aisle n ∙ ap (λ b. first_required layout picks aisle n ++ cond b (n ∷ []) []) on in
    subst (λ xs. IsReached layout xs (reach_place layout reached n)) (sym more) (reached_more layout (first_required layout picks aisle n) reached n is)

-- where the next place is not required, the pass leaves it out
pub looked_no : (layout : Layout) (picks : List Point) (aisle n : ℕ) (reached : Option RequiredPlaces) → is_required layout picks aisle n ≡ false
    → IsReached layout (first_required layout picks aisle n) reached →
    IsReached layout (first_required layout picks aisle (n + 1)) reached
looked_no layout picks aisle n reached off is =
    let more = looked_more layout picks aisle n ∙ ap (λ b. first_required layout picks aisle n ++ cond b (n ∷ []) []) off
    ∙ append-nil (first_required layout picks aisle n) in
    subst (λ xs. IsReached layout xs reached) (sym more) is

-- a pass over all places of an aisle comes to what its required places come to
pub looked_all : (layout : Layout) (picks : List Point) (aisle n : ℕ) (reached : Option RequiredPlaces) → n ≡ layout.slots + 2
    → IsReached layout (first_required layout picks aisle n) reached → IsReached layout (required_places layout picks aisle) reached
unfolding site_places
looked_all layout picks aisle n reached all is = subst (λ k. IsReached layout (first_required layout picks aisle k) reached) all is

last_at : (before : List ℕ) (x : ℕ) → slice_get (before ++ x ∷ []) (length (before ++ x ∷ []) - 1) ≡ Some x
last_at [] x = refl
last_at (y ∷ before) x =
    let len = length-append before (x ∷ []) in
    let back : length (y ∷ before ++ x ∷ []) - 1 ≡ suc (length (before ++ x ∷ []) - 1) = omega (arith, len) in
    ap (λ i. slice_get (y ∷ before ++ x ∷ []) i) back ∙ last_at before x

-- where nothing is required, a way that applies turns nowhere
pub turns_none : (layout : Layout) (picks : List Point) (aisle : ℕ) (way : Way) (w : ℕ) → required_places layout picks aisle ≡ []
    → way_length (ways_of layout picks aisle) way ≡ Some w → AreTurns layout picks aisle way 0 0
turns_none layout picks aisle Pass w none applies = tt
turns_none layout picks aisle Back w none applies = absurd (none-some _
    (sym (ap (λ xs. slice_get xs 0) none) ∙ (some_turns layout picks aisle Back w applies).2))
turns_none layout picks aisle Front w none applies = absurd (none-some _
    (sym (ap (λ xs. slice_get xs (length xs - 1)) none) ∙ (some_turns layout picks aisle Front w applies).2))
turns_none layout picks aisle Gap w none applies =
    let turns = some_turns layout picks aisle Gap w applies in
    let pair = turns.2.0 in
    let len = ap length (sym pair.places_are ∙ none) ∙ refl in
    absurd (let more = length-append pair.before (turns.0 ∷ turns.1 ∷ pair.after) in omega (arith, len, more))
turns_none layout picks aisle Double w none applies = tt
turns_none layout picks aisle Skip w none applies = tt

-- each way but the gap way turns, if at all, at the last required place from the front or the first from the back
pub turns_ends : (layout : Layout) (picks : List Point) (aisle : ℕ) (way : Way) (reached : RequiredPlaces)
    → Sums layout reached (required_places layout picks aisle)
    → (way ≡ Gap → ⊥) → AreTurns layout picks aisle way reached.last reached.first
turns_ends layout picks aisle Pass reached is other = tt
turns_ends layout picks aisle Back reached is other = is.first
turns_ends layout picks aisle Front reached is other = subst (λ xs. slice_get xs (length xs - 1) ≡ Some reached.last) (sym is.ends)
    (last_at is.before reached.last)
turns_ends layout picks aisle Gap reached is other = absurd (other refl)
turns_ends layout picks aisle Double reached is other = tt
turns_ends layout picks aisle Skip reached is other = tt

-- the gap way turns at the two places around a largest gap
pub turns_gap : (layout : Layout) (picks : List Point) (aisle : ℕ) (reached : RequiredPlaces) (w : ℕ) → Sums layout reached (required_places layout picks aisle)
    → way_length (ways_of layout picks aisle) Gap ≡ Some w → AreTurns layout picks aisle Gap reached.near reached.far
turns_gap layout picks aisle reached w is applies =
    let turns = some_turns layout picks aisle Gap w applies in
    let pair = turns.2.0 in
    let more = length-append pair.before (turns.0 ∷ turns.1 ∷ pair.after) in (
      ⊎_elim
          (λ alone. let len = ap length (sym pair.places_are ∙ is.ends ∙ ap (λ xs. xs ++ reached.last ∷ []) alone) in absurd (omega (arith, len, more)))
          (λ both. both)
          is.pair,
      is.width,
    )
