-- The aisles of a layout: they are as long as each other, and that of the depot is needed.
use Rattle.std.proofs.Common.{◌≡◌, ℕ, ◌+◌, Bool, true, false, List, [], ◌∷◌, Option, Some, None, if◌then◌else◌, is_some, ap, arith, refl, sym, ◌∙◌, subst}
use Rattle.std.proofs.lemmas.Option.{none-some}
use Rattle.wp_model.specs.declared.point.Point.{Point}
use Rattle.wp_model.specs.Warehouse.{End, IsLayout, Layout}
use Rattle.wp_graph.specs.AisleLengths.{site_ways, ways_of, ways_with}
use Rattle.wp_graph.specs.NeededAisles.{IsLastNeededBefore, is_needed}
use Rattle.wp_graph.specs.PickSets.{AreSlots}
use Rattle.wp_graph.specs.Required.{aisle_length, required_distances}
use Rattle.wp_graph.specs.Sites.{has_depot, site_of}
use Rattle.wp_model.specs.Warehouse.End.{at_front, at_back}
use Rattle.wp_graph.proofs.NeededWays.{depot_not_skipped, not_skipped, skip_tells}
use Rattle.wp_classes.specs.Choices.{block_of}
use Rattle.wp_fast.specs.SpareRuns.{IsNextNeeded}
use Rattle.wp_fast.proofs.Alone.{IsEven, IsSpare}

-- an aisle that can be skipped has no required distance
spare_with : (depot : End → Bool) (whole : ℕ) (distances : List ℕ) (nothing : ℕ) → (ways_with depot whole distances).skip ≡ Some nothing →
    IsSpare (ways_with depot whole distances)
spare_with depot whole [] nothing e = record { back = neither (depot at_front); front = neither (depot at_back); gap = refl; skip = refl }
  where
    neither : (b : Bool) → ◌≡◌ {A = Option ℕ} (if b then None else None) None
    neither true = refl
    neither false = refl
spare_with depot whole (near ∷ far) nothing e = absurd (none-some nothing (sym (not_skipped depot whole near far) ∙ e))

-- all aisles of a layout
pub layout_even : (layout : Layout) (picks : List Point) → IsEven (aisle_length layout) (block_of layout picks)
unfolding site_ways
layout_even layout picks = record {
  long = λ aisle. record { pass = refl; double = refl };
  spare = λ aisle nothing e. spare_with (has_depot (site_of layout) aisle) (aisle_length layout) (required_distances layout picks aisle) nothing e;
}

-- there is a last needed aisle, since that of the depot is one
pub last_needed : (layout : Layout) (picks : List Point) (found : Option ℕ) → IsLayout layout →
    IsNextNeeded (block_of layout picks) (layout.aisles + 1) found → is_some found ≡ true
last_needed layout picks None valid none =
    let spare = none layout.depot (omega (arith, valid.depot)) (omega (arith, valid.depot)) in
    absurd (none-some spare.0 (sym (depot_not_skipped layout picks) ∙ spare.1))
last_needed layout picks (Some last) valid next = refl

-- the last needed aisle before another, by the points and by the ways through the aisles
pub next_needed : (layout inner : Layout) (picks : List Point) (aisle : ℕ) (found : Option ℕ) → inner ≡ layout → AreSlots inner picks →
    IsLastNeededBefore inner picks aisle found → IsNextNeeded (block_of layout picks) aisle found
next_needed layout inner picks aisle found same are last = go found (subst (λ (l : Layout). IsLastNeededBefore l picks aisle found) same last)
  where
    skip_of : (other : ℕ) (needed : Bool) → is_needed layout picks other ≡ needed → (ways_of layout picks other).skip ≡ (if needed then None else Some 0)
    skip_of other needed is = skip_tells layout picks other (subst (λ (l : Layout). AreSlots l picks) same are) ∙ ap (λ (b : Bool). if b then None
        else Some 0) is

    go : (found : Option ℕ) → IsLastNeededBefore layout picks aisle found → IsNextNeeded (block_of layout picks) aisle found
    go None none = λ other low high. (0, skip_of other false (none other low high))
    go (Some next) (some, before, needed, none) = (some, before, skip_of next true needed, λ other low high. (0, skip_of other false (none other low high)))
