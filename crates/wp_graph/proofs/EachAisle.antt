-- Each aisle of a closed walk: an odd number of times through it, an even number of times, or with a cut.
use Rattle.std.proofs.Common.{◌≡◌, ◌≢◌, ℕ, suc, ◌+◌, ◌-◌, ◌*◌, ◌%◌, ◌<◌, ◌≤◌, ◌==◌, ◌&&◌, nat_le, nat_lt, Bool, true, false, List, ◌∷◌, arith, refl, sym, ap}
use Rattle.std.proofs.Common.{◌∙◌, subst, ◌⊎◌, inl, inr, ⊎_elim}
use Rattle.std.specs.List.{range_with_len}
use Rattle.std.proofs.lemmas.Bool.{and_parts, cases_eq, eqb-true}
use Rattle.std.proofs.lemmas.Bool.Decides.{nat_tests}
use Rattle.wp_model.proofs.Sums.{sum-grows}
use Rattle.wp_model.specs.declared.point.Point.{Point}
use Rattle.wp_model.specs.Warehouse.{End, end_place}
use Rattle.wp_graph.specs.Copies.{Copies, aisle_walked}
use Rattle.wp_graph.specs.AisleLengths.{site_ways}
use Rattle.wp_graph.specs.Required.{has_point, site_places}
use Rattle.wp_graph.specs.Sites.{Site, depot_of, has_depot, is_end, last_place, site_distance}
use Rattle.wp_model.specs.Warehouse.End.{at_front, at_back}
use Rattle.wp_graph.specs.Members.{Among}
use Rattle.wp_graph.specs.TourCopies.{AreTour, IsUnwalked, IsOnTour}
use Rattle.wp_graph.specs.Cuts.{HasCut}
use Rattle.wp_graph.proofs.Ends.{end_within}
use Rattle.wp_graph.proofs.AscendingNumbers.{places_ascend}
use Rattle.wp_graph.proofs.PointTests.{among_has, has_among}
use Rattle.wp_graph.proofs.Members.{among-filter, among-range, filter_passed, range_bounds}
use Rattle.wp_graph.proofs.OneAisle.{all_least, cut_least, cut_ways, first_gap, last_gap}

-- a required place of an aisle is on every tour
pub place_on_tour : (site : Site) (picks : List Point) (aisle r : ℕ) → Among (site_places site picks aisle) r
    → IsOnTour site picks (record { aisle = aisle; slot = r })
unfolding site_places
place_on_tour site picks aisle r h = has_among (depot_of site ∷ picks) aisle r (filter_passed (has_point (depot_of site ∷ picks) aisle) _ r h).1

-- what is on every tour, at a place that an aisle has, is a required place of its aisle
pub tour_place : (site : Site) (picks : List Point) (p : Point) → IsOnTour site picks p → p.slot ≤ last_place site
    → Among (site_places site picks p.aisle) p.slot
unfolding site_places
tour_place site picks p on within = among-filter (has_point (depot_of site ∷ picks) p.aisle) (range_with_len 0 (site.slots + 2)) p.slot
    (among-range 0 (site.slots + 2) p.slot (omega arith) (omega (arith, within))) (among_has (depot_of site ∷ picks) p on)

-- a required place lies no further than the back end
pub places_within : (site : Site) (picks : List Point) (aisle r : ℕ) → Among (site_places site picks aisle) r → r ≤ last_place site
unfolding site_places
places_within site picks aisle r h = let bounds = range_bounds 0 (site.slots + 2) r (filter_passed (has_point (depot_of site ∷ picks) aisle) _ r h).0 in
    omega (arith, bounds.1)

-- what is walked of an aisle whose pieces are walked an odd number of times is no shorter than a pass
pub odd_aisle : (site : Site) (picks : List Point) (copies : Copies) (a : ℕ) → AreTour site picks copies → (copies.front a + copies.front (suc a)) % 2 ≡ 1
    → (site_ways site picks (suc a)).pass ≤ aisle_walked site copies (suc a)
unfolding site_ways
odd_aisle site picks copies a are odd =
    let least = all_least (last_place site) 1 (copies.deep (suc a)) site.step (λ s low. omega (arith, odd, are.even.through a s low)) in
    omega (arith, least)

-- the places behind a gap up to another, in one aisle
abbrev pub between : ℕ → ℕ → ℕ → ℕ → ℕ → Bool
between aisle z y a s = (a == aisle) && (nat_lt z s && nat_le s y)

between_same : (aisle z y a s : ℕ) → a ≡ aisle → s ≢ z → s ≢ y → between aisle z y a s ≡ between aisle z y a (suc s)
between_same aisle z y a s here low high = grind (arith, nat_tests)

between_else : (aisle z y a s t : ℕ) → a ≢ aisle → between aisle z y a s ≡ between aisle z y a t
between_else aisle z y a s t other = grind (arith, nat_tests)

between_back : (aisle z y a b : ℕ) → y < b → between aisle z y a b ≡ false
between_back aisle z y a b within = grind (arith, nat_tests)

between_front : (aisle z y a : ℕ) → between aisle z y a 0 ≡ false
between_front aisle z y a = grind (arith, nat_tests)

between_in : (aisle z y r : ℕ) → z < r → r ≤ y → between aisle z y aisle r ≡ true
between_in aisle z y r low high = grind (arith, nat_tests)

-- neither end lies there
between_end : (site : Site) (aisle z y a : ℕ) (end : End) → y < last_place site → between aisle z y a (end_place (last_place site) end) ≡ false
between_end site aisle z y a at_front within = between_front aisle z y a
between_end site aisle z y a at_back within = between_back aisle z y a (last_place site) within

between_kept : (site : Site) (copies : Copies) (aisle z y : ℕ) → copies.deep aisle z ≡ 0 → copies.deep aisle y ≡ 0 → y < last_place site
    → IsUnwalked site copies (between aisle z y)
between_kept site copies aisle z y low high within = record {
  deep = λ a s some. ⊎_elim
      (λ here. ⊎_elim (λ e. absurd (let at = ap (λ x. copies.deep x s) here ∙ ap (copies.deep aisle) e in omega (arith, at, some, low)))
      (λ apart. ⊎_elim (λ e. absurd (let at = ap (λ x. copies.deep x s) here ∙ ap (copies.deep aisle) e in omega (arith, at, some, high)))
      (λ apart'. between_same aisle z y a s here apart apart') (cases_eq s y))
      (cases_eq s z))
      (λ other. between_else aisle z y a s (suc s) other)
      (cases_eq a aisle);
  behind = λ a some. between_back aisle z y a (last_place site) within ∙ sym (between_back aisle z y (suc a) (last_place site) within);
  front = λ a some. between_front aisle z y a ∙ sym (between_front aisle z y (suc a));
}

-- nothing is required between two gaps
parts_of : (site : Site) (picks : List Point) (copies : Copies) (aisle z y r : ℕ) → AreTour site picks copies → copies.deep aisle z ≡ 0
    → copies.deep aisle y ≡ 0 → y < last_place site → Among (site_places site picks aisle) r → (r ≤ z) ⊎ (y < r)
parts_of site picks copies aisle z y r are low high within h = elim (cases r z) [
  | inl near ↦ inl near
  | inr far ↦ elim (cases r y) [
    | inl inside ↦ let same = are.joined.needed (between aisle z y) (between_kept site copies aisle z y low high within) (record { aisle = aisle; slot = r })
        (place_on_tour site picks aisle r h) in
        absurd (apart (sym (between_in aisle z y r far inside) ∙ same ∙ between_end site aisle z y site.depot site.end within))
    | inr beyond ↦ inr beyond
  ]
]
  where
    cases : (m n : ℕ) → (m ≤ n) ⊎ (n < m)
    cases m n = grind arith

    apart : true ≡ false → ⊥
    apart e = cc

same_end : (end other : End) → is_end end other ≡ true → end ≡ other
same_end at_front at_front e = refl
same_end at_front at_back e = absurd (cc)
same_end at_back at_front e = absurd (cc)
same_end at_back at_back e = refl

-- the depot's end is required in its aisle
depot_required : (site : Site) (picks : List Point) (aisle : ℕ) (end : End) → has_depot site aisle end ≡ true
    → Among (site_places site picks aisle) (end_place (last_place site) end)
depot_required site picks aisle end e =
    let parts = and_parts (is_end site.end end) (aisle == site.depot) e in
    let there = tour_place site picks (depot_of site) (inl refl) (end_within (last_place site) site.end) in
    let here = subst (λ (h : End). Among (site_places site picks site.depot) (end_place (last_place site) h)) (same_end _ _ parts.0) there in
    subst (λ a. Among (site_places site picks a) (end_place (last_place site) end)) (sym (eqb-true _ _ parts.1)) here

has_cut : (site : Site) (picks : List Point) (copies : Copies) (a z y : ℕ) → AreTour site picks copies → (copies.front a + copies.front (suc a)) % 2 ≡ 0
    → z ≤ y → y < last_place site → copies.deep (suc a) z ≡ 0 → copies.deep (suc a) y ≡ 0 →
    ((s : ℕ) → s < z → 0 < copies.deep (suc a) s) → ((s : ℕ) → y < s → s < last_place site → 0 < copies.deep (suc a) s) → HasCut site picks copies (suc a)
unfolding site_ways
has_cut site picks copies a z y are even order within low high before behind = record {
  gap = z;
  beyond = y;
  ordered = order;
  within = within;
  none = low;
  none_beyond = high;
  most = 2 * site_distance site z + 2 * (site_distance site (last_place site) - site_distance site (suc y));
  cut = cut_ways (has_depot site (suc a)) (site_distance site) (last_place site) z y (site_places site picks (suc a)) refl
      (λ i j upto. sum-grows i j site.step upto) order within (places_ascend site picks (suc a)) (λ r h. places_within site picks (suc a) r h)
      (λ r h. parts_of site picks copies (suc a) z y r are low high within h) (λ e. (0, depot_required site picks (suc a) at_front e, omega arith))
      (λ e. (last_place site, depot_required site picks (suc a) at_back e, within));
  least = cut_least (last_place site) z y (copies.deep (suc a)) site.step order within (λ s upto. omega (arith, even, are.even.through a s upto)) before behind;
}

-- an aisle whose pieces are walked an even number of times: each piece is walked, and a double is no longer, or it
-- has a cut
pub even_aisle : (site : Site) (picks : List Point) (copies : Copies) (a : ℕ) → AreTour site picks copies → (copies.front a + copies.front (suc a)) % 2 ≡ 0 →
    (((s : ℕ) → s < last_place site → 0 < copies.deep (suc a) s) × ((site_ways site picks (suc a)).double ≤ aisle_walked site copies (suc a)))
    ⊎ HasCut site picks copies (suc a)
unfolding site_ways
even_aisle site picks copies a are even = elim (first_gap (last_place site) (copies.deep (suc a))) [
  | inl all ↦ inl (all, all_least (last_place site) 2 (copies.deep (suc a)) site.step (λ s low. omega (arith, even, all s low, are.even.through a s low)))
  | inr first ↦ let last = last_gap (last_place site) (copies.deep (suc a)) first.0 first.1 first.2 in
      inr (has_cut site picks copies a first.0 last.0 are even last.1 last.2 first.2 last.3 first.3 last.4)
]
