-- An aisle can't be skipped exactly where it is needed.
use Rattle.std.proofs.Common.{◌≡◌, ℕ, ◌+◌, ◌≤◌, ◌==◌, Bool, true, false, List, [], ◌∷◌, Some, None, if◌then◌else◌, length, map, arith, inl, inr, refl, ap, sym}
use Rattle.std.proofs.Common.{◌∙◌, subst}
use Rattle.std.proofs.lemmas.Bool.{cond-false, false_from_ne_true, false≢true, ne_eqb}
use Rattle.wp_model.specs.declared.point.Point.{Point}
use Rattle.wp_model.specs.Warehouse.{End, Layout, back_end, depot_point, end_place}
use Rattle.wp_graph.specs.AisleLengths.{site_ways, ways_of, ways_with}
use Rattle.wp_graph.specs.Members.{Among}
use Rattle.wp_graph.specs.NeededAisles.{is_needed}
use Rattle.wp_graph.specs.PickSets.{AreSlots}
use Rattle.wp_graph.specs.Required.{aisle_length, distance, has_point, is_required, required_distances, required_places, site_places}
use Rattle.wp_graph.specs.Sites.{has_depot, site_of}
use Rattle.wp_graph.proofs.Ends.{end_within}
use Rattle.wp_graph.proofs.Members.{among-filter, among-map, among-range, among_from_Contains}
use Rattle.wp_graph.proofs.NeededAisles.{IsNeeded, lies_any, needed_cases}
use Rattle.wp_graph.proofs.Places.{none_passes}
use Rattle.wp_graph.proofs.PointTests.{among_has, has_among}

-- an aisle with a required distance can't be skipped
pub not_skipped : (depot : End → Bool) (whole near : ℕ) (far : List ℕ) → (ways_with depot whole (near ∷ far)).skip ≡ None
not_skipped depot whole near far = cond-false (length (near ∷ far) == 0) (Some 0) None (ne_eqb _ _ (λ e. omega (arith, e)))

not_skipped_with : (depot : End → Bool) (whole : ℕ) (distances : List ℕ) (d : ℕ) → Among distances d → (ways_with depot whole distances).skip ≡ None
not_skipped_with depot whole [] d h = absurd h
not_skipped_with depot whole (near ∷ far) d h = not_skipped depot whole near far

-- an aisle with a required place can't be skipped
required_not_skipped : (layout : Layout) (points : List Point) (aisle place : ℕ) → place ≤ layout.slots + 1
    → has_point (depot_point layout ∷ points) aisle place ≡ true →
    (ways_of layout points aisle).skip ≡ None
unfolding site_ways site_places
required_not_skipped layout points aisle place within has =
    not_skipped_with (has_depot (site_of layout) aisle) (aisle_length layout) (required_distances layout points aisle) (distance layout place)
    (among-map (distance layout) (required_places layout points aisle) place
    (among-filter (is_required layout points aisle) _ place (among-range 0 (layout.slots + 2) place (omega arith) (omega (arith, within))) has))

-- the depot's aisle can't be skipped
pub depot_not_skipped : (layout : Layout) (points : List Point) → (ways_of layout points layout.depot).skip ≡ None
depot_not_skipped layout points =
    required_not_skipped layout points layout.depot (end_place (back_end layout) layout.end) (end_within (back_end layout) layout.end)
    (among_has (depot_point layout ∷ points) (depot_point layout) (inl refl))

-- a needed aisle can't be skipped
needed_not_skipped : (layout : Layout) (points : List Point) (aisle : ℕ) → AreSlots layout points → is_needed layout points aisle ≡ true →
    (ways_of layout points aisle).skip ≡ None
needed_not_skipped layout points aisle are needed = go (needed_cases layout points aisle needed)
  where
    go : IsNeeded layout points aisle → (ways_of layout points aisle).skip ≡ None
    go (inl e) = subst (λ (a : ℕ). (ways_of layout points a).skip ≡ None) e (depot_not_skipped layout points)
    go (inr (p, has, e)) =
        let slot = (are.slots p has).slot in
        subst (λ (a : ℕ). (ways_of layout points a).skip ≡ None) e
        (required_not_skipped layout points p.aisle p.slot (omega (arith, slot))
        (among_has (depot_point layout ∷ points) p (inr (among_from_Contains points p has))))

-- another one can, at no length
spared_skipped : (layout : Layout) (points : List Point) (aisle : ℕ) → is_needed layout points aisle ≡ false → (ways_of layout points aisle).skip ≡ Some 0
unfolding site_ways site_places is_needed
spared_skipped layout points aisle spared =
    let none : required_places layout points aisle ≡ []
    = none_passes (is_required layout points aisle) 0 (layout.slots + 2) (λ place low high. false_from_ne_true _
    (λ has. false≢true (sym spared ∙ lies_any (depot_point layout ∷ points) (record { aisle = aisle; slot = place })
    (has_among (depot_point layout ∷ points) aisle place has)))) in
    ap (λ (places : List ℕ). (ways_with (has_depot (site_of layout) aisle) (aisle_length layout) (map (distance layout) places)).skip) none

-- so the way that skips an aisle tells whether it is needed
pub skip_tells : (layout : Layout) (points : List Point) (aisle : ℕ) → AreSlots layout points →
    (ways_of layout points aisle).skip ≡ (if is_needed layout points aisle then None else Some 0)
skip_tells layout points aisle are = go (is_needed layout points aisle) refl
  where
    go : (needed : Bool) → is_needed layout points aisle ≡ needed → (ways_of layout points aisle).skip ≡ (if needed then None else Some 0)
    go true is = needed_not_skipped layout points aisle are is
    go false is = spared_skipped layout points aisle is
