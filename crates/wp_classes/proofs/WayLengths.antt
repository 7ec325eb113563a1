-- The lengths of the ways by the places at which they turn.
use Rattle.std.proofs.Common.{◌≡◌, ℕ, ◌-◌, ◌*◌, ◌==◌, Bool, true, false, List, [], ◌∷◌, Option, Some, None, option_map, length, map, slice_get, nat_le}
use Rattle.std.proofs.Common.{if◌then◌else◌, arith, refl, sym, ◌∙◌, ap, subst}
use Rattle.std.proofs.lemmas.Bool.{eqb-true}
use Rattle.std.proofs.lemmas.List.{length-map}
use Rattle.std.proofs.lemmas.Option.{none-some, same_Some, slice_get-map}
use Rattle.wp_model.specs.declared.point.Point.{Point}
use Rattle.wp_model.specs.Warehouse.{Layout}
use Rattle.wp_model.specs.Warehouse.End.{at_front, at_back}
use Rattle.wp_graph.specs.AisleLengths.{site_ways, ways_of}
use Rattle.wp_graph.specs.Required.{aisle_length, distance, largest_gap, required_distances, required_places}
use Rattle.wp_graph.specs.Sites.{has_depot, site_of}
use Rattle.wp_classes.specs.declared.class.Way.TheVariants.{Pass, Back, Front, Gap, Double, Skip}
use Rattle.wp_classes.specs.Tables.{way_length}

-- a pass is as long as the aisle
pub pass_is : (layout : Layout) (picks : List Point) (aisle w : ℕ) → way_length (ways_of layout picks aisle) Pass ≡ Some w → w ≡ aisle_length layout
unfolding site_ways
pass_is layout picks aisle w e = sym (same_Some _ _ e)

-- two passes are twice as long as the aisle
pub double_is : (layout : Layout) (picks : List Point) (aisle w : ℕ) → way_length (ways_of layout picks aisle) Double ≡ Some w → w ≡ 2 * aisle_length layout
unfolding site_ways
double_is layout picks aisle w e = sym (same_Some _ _ e)

-- the way from the back is twice as long as what lies behind the first required place
pub back_is : (layout : Layout) (picks : List Point) (aisle far w : ℕ) → way_length (ways_of layout picks aisle) Back ≡ Some w
    → slice_get (required_places layout picks aisle) 0 ≡ Some far → w ≡ 2 * (aisle_length layout - distance layout far)
unfolding site_ways
back_is layout picks aisle far w e first =
    let at : slice_get (map (distance layout) (required_places layout picks aisle)) 0 ≡ Some (distance layout far) =
    slice_get-map (distance layout) (required_places layout picks aisle) 0 ∙ ap (option_map (distance layout)) first in
    go (has_depot (site_of layout) aisle at_front)
    (subst (λ (o : Option ℕ). (if has_depot (site_of layout) aisle at_front then None else option_map (λ r. 2 * (aisle_length layout - r)) o) ≡ Some w) at e)
  where
    go : (b : Bool) → (if b then None else Some (2 * (aisle_length layout - distance layout far))) ≡ Some w
        → w ≡ 2 * (aisle_length layout - distance layout far)
    go true h = absurd (none-some _ h)
    go false h = sym (same_Some _ _ h)

-- the way from the front is twice as long as what lies in front of the last required place
pub front_is : (layout : Layout) (picks : List Point) (aisle near w : ℕ) → way_length (ways_of layout picks aisle) Front ≡ Some w
    → slice_get (required_places layout picks aisle) (length (required_places layout picks aisle) - 1) ≡ Some near → w ≡ 2 * distance layout near
unfolding site_ways
front_is layout picks aisle near w e last =
    let places = required_places layout picks aisle in
    let at : slice_get (map (distance layout) places) (length (map (distance layout) places) - 1) ≡ Some (distance layout near) =
    ap (λ n. slice_get (map (distance layout) places) (n - 1)) (length-map places (distance layout))
    ∙ slice_get-map (distance layout) places (length places - 1) ∙ ap (option_map (distance layout)) last in
    go (has_depot (site_of layout) aisle at_back)
    (subst (λ (o : Option ℕ). (if has_depot (site_of layout) aisle at_back then None else option_map (λ r. 2 * r) o) ≡ Some w) at e)
  where
    go : (b : Bool) → (if b then None else Some (2 * distance layout near)) ≡ Some w → w ≡ 2 * distance layout near
    go true h = absurd (none-some _ h)
    go false h = sym (same_Some _ _ h)

-- the gap way is twice as long as the aisle without its largest gap
pub gap_is : (layout : Layout) (picks : List Point) (aisle w : ℕ) → way_length (ways_of layout picks aisle) Gap ≡ Some w
    → w ≡ 2 * (aisle_length layout - largest_gap (required_distances layout picks aisle))
unfolding site_ways
gap_is layout picks aisle w e = go (nat_le 2 (length (required_distances layout picks aisle))) e
  where
    go : (b : Bool) → (if b then Some (2 * (aisle_length layout - largest_gap (required_distances layout picks aisle))) else None) ≡ Some w
        → w ≡ 2 * (aisle_length layout - largest_gap (required_distances layout picks aisle))
    go true h = sym (same_Some _ _ h)
    go false h = absurd (none-some _ h)

-- a way that skips the aisle has length 0, and the aisle has no required place
pub skip_is : (layout : Layout) (picks : List Point) (aisle w : ℕ) → way_length (ways_of layout picks aisle) Skip ≡ Some w → (w ≡ 0)
    × (required_places layout picks aisle ≡ [])
unfolding site_ways
skip_is layout picks aisle w e = go (length (map (distance layout) (required_places layout picks aisle)) == 0) refl e
  where
    none : (xs : List ℕ) → length xs ≡ 0 → xs ≡ []
    none [] h = refl
    none (x ∷ xs) h = absurd (omega arith)

    go : (b : Bool) → (length (map (distance layout) (required_places layout picks aisle)) == 0) ≡ b → (if b then Some 0 else None) ≡ Some w → (w ≡ 0)
        × (required_places layout picks aisle ≡ [])
    go true is h = (
      sym (same_Some _ _ h),
      none (required_places layout picks aisle)
          (sym (length-map (required_places layout picks aisle) (distance layout)) ∙ eqb-true _ _ is),
    )
    go false is h = absurd (none-some _ h)
