-- What further picks leave of the ways through an aisle.
use Rattle.std.proofs.Common.{◌≡◌, ℕ, ◌+◌, ◌↔◌, true, List, ◌∷◌, map, Contains, refl, inl, inr, ◌⊎◌, ⊎_elim, ap}
use Rattle.std.specs.List.{range_with_len}
use Rattle.std.proofs.lemmas.List.Elements.{filter_agree}
use Rattle.wp_model.specs.declared.point.Point.{Point}
use Rattle.wp_model.specs.Warehouse.{Layout, depot_point}
use Rattle.wp_graph.specs.AisleLengths.{site_ways, ways_of, ways_with}
use Rattle.wp_graph.specs.Members.{Among}
use Rattle.wp_graph.specs.PickSets.{HaveSlotIn}
use Rattle.wp_graph.specs.Required.{aisle_length, distance, is_required, site_places}
use Rattle.wp_graph.specs.Sites.{has_depot, site_of}
use Rattle.wp_graph.proofs.Members.{Contains-from_among, among_from_Contains}
use Rattle.wp_graph.proofs.PointTests.{among_has, has_among, same_tests}

-- a place is required exactly where the depot lies or where there is a pick
required_at : (layout : Layout) (picks : List Point) (aisle place : ℕ) → is_required layout picks aisle place ≡ true
    → Among (depot_point layout ∷ picks) (record { aisle = aisle; slot = place })
required_at layout picks aisle place h = has_among (depot_point layout ∷ picks) aisle place h

at_required : (layout : Layout) (picks : List Point) (p : Point) → Among (depot_point layout ∷ picks) p → is_required layout picks p.aisle p.slot ≡ true
at_required layout picks p h = among_has (depot_point layout ∷ picks) p h

-- further picks leave the ways through an aisle as they are where none of them lies in it
pub ways_kept : (layout : Layout) (old more union : List Point) (aisle : ℕ) → ((p : Point) → Contains union p ↔ (Contains old p ⊎ Contains more p))
    → (HaveSlotIn more aisle → ⊥) → ways_of layout union aisle ≡ ways_of layout old aisle
unfolding site_ways site_places
ways_kept layout old more union aisle both none =
    ap (λ (places : List ℕ). ways_with (has_depot (site_of layout) aisle) (aisle_length layout) (map (distance layout) places))
    (filter_agree (is_required layout union aisle) (is_required layout old aisle)
    (λ place. same_tests (is_required layout union aisle place) (is_required layout old aisle place) (fewer place) (more_too place))
    (range_with_len 0 (layout.slots + 2)))
  where
    fewer : (place : ℕ) → is_required layout union aisle place ≡ true → is_required layout old aisle place ≡ true
    fewer place h =
        let point : Point = record { aisle = aisle; slot = place } in
        at_required layout old point (⊎_elim (λ e. inl e)
        (λ has. ⊎_elim (λ before. inr (among_from_Contains old point before)) (λ later. absurd (none (point, later, refl)))
        ((both point).0 (Contains-from_among union point has))) (required_at layout union aisle place h))

    more_too : (place : ℕ) → is_required layout old aisle place ≡ true → is_required layout union aisle place ≡ true
    more_too place h =
        let point : Point = record { aisle = aisle; slot = place } in
        at_required layout union point (⊎_elim (λ e. inl e)
        (λ has. inr (among_from_Contains union point ((both point).1 (inl (Contains-from_among old point has))))) (required_at layout old aisle place h))
