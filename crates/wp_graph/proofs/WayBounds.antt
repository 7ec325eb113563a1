-- Bounds of the lengths of the ways through an aisle.
use Rattle.std.proofs.Common.{◌≡◌, ℕ, ◌+◌, ◌-◌, ◌*◌, ◌≤◌, ◌==◌, true, false, List, Option, Some, None, option_map, IfSome, length, slice_get, nat_le}
use Rattle.std.proofs.Common.{if◌then◌else◌, arith, refl, subst}
use Rattle.std.proofs.lemmas.Nat.{mul-le}
use Rattle.std.proofs.lemmas.Option.{get_or_from_slice_get, slice_get_within}
use Rattle.wp_model.proofs.Sums.{sum-grows}
use Rattle.wp_model.specs.declared.point.Point.{Point}
use Rattle.wp_model.specs.Warehouse.{Layout, IsLayout, back_end, step_length}
use Rattle.wp_model.specs.Warehouse.End.{at_front, at_back}
use Rattle.wp_graph.specs.AisleLengths.{AreAtMost, site_ways, ways_of}
use Rattle.wp_graph.specs.Required.{aisle_length, distance, is_required, largest_gap, required_distances, required_places, site_places}
use Rattle.wp_graph.specs.Sites.{has_depot, site_of}
use Rattle.wp_graph.specs.Members.{Among}
use Rattle.wp_graph.proofs.Distances.{aisle_length_is}
use Rattle.wp_graph.proofs.Members.{among_at, filter_passed, map_source, range_bounds}

-- no aisle of a layout is longer than 2010000
pub aisle_length_small : (layout : Layout) → IsLayout layout → aisle_length layout ≤ 2010000
aisle_length_small layout valid =
    let whole = aisle_length_is layout valid.slots.0 in
    let most = valid.slots.1 in
    let clear = valid.clearance.1 in
    let inner = mul-le (layout.slots - 1) layout.pitch 199 10000 (omega arith) valid.pitch.1 in
    omega (arith, whole, inner, clear)

-- a required place lies in the aisle, the back end included
pub required_within : (layout : Layout) (picks : List Point) (aisle place : ℕ) → Among (required_places layout picks aisle) place → place ≤ layout.slots + 1
unfolding site_places
required_within layout picks aisle place h =
    let bounds = range_bounds 0 (layout.slots + 2) place (filter_passed (is_required layout picks aisle) _ place h).0 in omega (arith, bounds.1)

-- a required distance is at most the length of the aisle
pub required_near : (layout : Layout) (picks : List Point) (aisle d : ℕ) → Among (required_distances layout picks aisle) d → d ≤ aisle_length layout
required_near layout picks aisle d h =
    let source = map_source (distance layout) (required_places layout picks aisle) d h in
    let within = required_within layout picks aisle source.0 source.1 in
    subst (λ x. x ≤ aisle_length layout) source.2 (sum-grows source.0 (back_end layout) (step_length layout) (omega (arith, within)))

-- no way through an aisle of a layout is longer than 4020000
pub ways_small : (layout : Layout) (picks : List Point) (aisle : ℕ) → IsLayout layout → AreAtMost 4020000 (ways_of layout picks aisle)
unfolding site_ways
ways_small layout picks aisle valid = record {
  pass = omega (arith, small);
  back = elim (has_depot (site_of layout) aisle at_front) as
      (λ b. IfSome (if b then None else option_map (λ r. 2 * (whole - r)) (slice_get ds 0)) (λ t. t ≤ 4020000))
      [ true ↦ tt | false ↦ mapped (slice_get ds 0) (λ r. omega (arith, small)) ];
  front = elim (has_depot (site_of layout) aisle at_back) as
      (λ b. IfSome (if b then None else option_map (λ r. 2 * r) (slice_get ds (length ds - 1))) (λ t. t ≤ 4020000))
      [ true ↦ tt | false ↦ ends (slice_get ds (length ds - 1)) refl ];
  gap = elim (nat_le 2 (length ds)) as (λ b. IfSome (if b then Some (2 * (whole - largest)) else None) (λ t. t ≤ 4020000))
      [ true ↦ omega (arith, small) | false ↦ tt ];
  double = omega (arith, small);
  skip = elim (length ds == 0) as (λ b. IfSome (if b then Some 0 else None) (λ t. t ≤ 4020000)) [ true ↦ omega arith | false ↦ tt ];
}
  where
    whole : ℕ
    whole = aisle_length layout

    ds : List ℕ
    ds = required_distances layout picks aisle

    largest : ℕ
    largest = largest_gap ds

    small : aisle_length layout ≤ 2010000
    small = aisle_length_small layout valid

    mapped : (o : Option ℕ) → ((r : ℕ) → 2 * (aisle_length layout - r) ≤ 4020000)
        → IfSome (option_map (λ r. 2 * (aisle_length layout - r)) o) (λ t. t ≤ 4020000)
    mapped None h = tt
    mapped (Some r) h = h r

    ends : (o : Option ℕ) → slice_get (required_distances layout picks aisle) (length (required_distances layout picks aisle) - 1) ≡ o
        → IfSome (option_map (λ r. 2 * r) o) (λ t. t ≤ 4020000)
    ends None e = tt
    ends (Some r) e =
        let all = required_distances layout picks aisle in
        let last = length all - 1 in
        let at = get_or_from_slice_get all last r 0 e in
        let near : r ≤ aisle_length layout = required_near layout picks aisle r (among_at all last r 0 (slice_get_within all last r e) at) in
        omega (arith, near, small)
