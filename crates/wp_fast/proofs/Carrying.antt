-- The lengths that are carried over the aisles of a layout, from one needed aisle to the one before it.
use Rattle.std.proofs.Common.{◌≡◌, ℕ, ◌+◌, ◌*◌, ◌-◌, ◌<◌, ◌≤◌, ◌^◌, List, Option, Some, None, arith, refl, sym, ◌∙◌, ap, subst, IsTrue}
use Rattle.std.proofs.lemmas.Bool.{false≢true}
use Rattle.wp_model.specs.declared.point.Point.{Point}
use Rattle.wp_model.specs.Tours.{IsShortest}
use Rattle.wp_model.specs.Warehouse.{IsLayout, Layout}
use Rattle.wp_graph.specs.declared.ways.AisleWays.{AisleWays}
use Rattle.wp_graph.specs.AisleLengths.{AreAtMost, ways_of}
use Rattle.wp_graph.specs.Offsets.{aisle_offset}
use Rattle.wp_graph.specs.PickSets.{AreSlots}
use Rattle.wp_graph.specs.Required.{aisle_length}
use Rattle.wp_graph.proofs.WayBounds.{ways_small}
use Rattle.wp_classes.specs.declared.class.Class.{Class}
use Rattle.wp_classes.specs.declared.class.Class.TheVariants.{UU1, E01, ZE1, EE1, EE2, Z00, Z01}
use Rattle.wp_classes.specs.Choices.{block_of}
use Rattle.wp_classes.specs.Onward.{IsLeastOf, Onward}
use Rattle.wp_classes.proofs.Leasts.{least_like}
use Rattle.wp_classes.proofs.Routes.{IsLeastFirst, least_route}
use Rattle.wp_classes.proofs.Shortest.{shortest}
use Rattle.wp_classes.proofs.Small.{block_small, first_small, onward_small, through_small}
use Rattle.wp_fast.specs.declared.lengths.NeededLengths.{NeededLengths}
use Rattle.wp_fast.specs.Lengths.{AreBehind, AreCarried, AreShort, AreWays, HaveLeast, PastTheRest, along_run, by_some_way, ends, is_begun, on_from}
use Rattle.wp_fast.specs.SpareRuns.{AreNeighbours, NoneBetween}
use Rattle.wp_fast.proofs.Beginning.{begins_first, first_begins}
use Rattle.wp_fast.proofs.LeastNeeded.{least_before, least_to_end, least_to_needed}
use Rattle.wp_fast.proofs.NoMore.{itself, least_between}
use Rattle.wp_fast.proofs.Steps.{ThroughAndOn}
use Rattle.wp_fast.proofs.Warehouse.{layout_even}
use Rattle.wp_fast.proofs.WholeRuns.{first_of_run, on_from_run, run_from_on}

-- the ways through a needed aisle
pub ways_needed : (layout : Layout) (picks : List Point) (aisle : ℕ) (ways : AisleWays) → IsLayout layout → ways ≡ ways_of layout picks aisle →
    (ways_of layout picks aisle).skip ≡ None → AreWays ways
ways_needed layout picks aisle ways valid is none = record {
  needed = ap (λ (w : AisleWays). w.skip) is ∙ none;
  short = subst (λ (w : AisleWays). AreAtMost 4020000 w) (sym is) (ways_small layout picks aisle valid);
}

-- past an aisle and all behind it: by some way through it, and on
rest_from : (layout : Layout) (picks : List Point) (aisle : ℕ) (class : Class) (t : ℕ) → aisle ≤ layout.aisles →
    ThroughAndOn (block_of layout picks) (layout.aisles - aisle) aisle class t → PastTheRest layout picks aisle class t
rest_from layout picks aisle class t last h = run_from_on layout picks aisle (layout.aisles + 1 - aisle) class t last (omega (arith, last)) h

from_rest : (layout : Layout) (picks : List Point) (aisle : ℕ) (class : Class) (t : ℕ) → aisle ≤ layout.aisles →
    PastTheRest layout picks aisle class t → ThroughAndOn (block_of layout picks) (layout.aisles - aisle) aisle class t
from_rest layout picks aisle class t last h = on_from_run layout picks aisle (layout.aisles + 1 - aisle) class t last (omega (arith, last)) h

least_rest : (layout : Layout) (picks : List Point) (aisle : ℕ) (class : Class) (least : Option ℕ) → aisle ≤ layout.aisles →
    IsLeastOf (ThroughAndOn (block_of layout picks) (layout.aisles - aisle) aisle class) least → IsLeastOf (PastTheRest layout picks aisle class) least
least_rest layout picks aisle class least last is =
    least_like (ThroughAndOn (block_of layout picks) (layout.aisles - aisle) aisle class) (PastTheRest layout picks aisle class) least
    (λ t h. rest_from layout picks aisle class t last h) (λ t h. from_rest layout picks aisle class t last h) is

rest_least : (layout : Layout) (picks : List Point) (aisle : ℕ) (class : Class) (least : Option ℕ) → aisle ≤ layout.aisles →
    IsLeastOf (PastTheRest layout picks aisle class) least → IsLeastOf (ThroughAndOn (block_of layout picks) (layout.aisles - aisle) aisle class) least
rest_least layout picks aisle class least last is =
    least_like (PastTheRest layout picks aisle class) (ThroughAndOn (block_of layout picks) (layout.aisles - aisle) aisle class) least
    (λ t h. from_rest layout picks aisle class t last h) (λ t h. rest_from layout picks aisle class t last h) is

-- what is carried to a needed aisle, from what is behind it
pub carried_to : (layout : Layout) (picks : List Point) (aisle : ℕ) (ways : AisleWays) (on : Class → Option ℕ) (lengths : NeededLengths) →
    ways ≡ ways_of layout picks aisle → AreBehind layout picks aisle on → HaveLeast ways on lengths → AreCarried (PastTheRest layout picks aisle) lengths
carried_to layout picks aisle ways on lengths is behind have =
    let by = subst (λ (w : AisleWays). HaveLeast w on lengths) is have in
    record { least = at by }
  where
    at : HaveLeast (ways_of layout picks aisle) on lengths → (class : Class) → IsTrue (is_begun class) →
        IsLeastOf (PastTheRest layout picks aisle class) (on_from lengths class)
    at by UU1 begun = subst (λ o. IsLeastOf (PastTheRest layout picks aisle UU1) o) (sym by.uu1) (behind.least UU1)
    at by E01 begun = subst (λ o. IsLeastOf (PastTheRest layout picks aisle E01) o) (sym by.e01) (behind.least E01)
    at by ZE1 begun = subst (λ o. IsLeastOf (PastTheRest layout picks aisle ZE1) o) (sym by.ze1) (behind.least ZE1)
    at by EE1 begun = subst (λ o. IsLeastOf (PastTheRest layout picks aisle EE1) o) (sym by.ee1) (behind.least EE1)
    at by EE2 begun = subst (λ o. IsLeastOf (PastTheRest layout picks aisle EE2) o) (sym by.ee2) (behind.least EE2)
    at by Z00 begun = absurd (false≢true begun)
    at by Z01 begun = absurd (false≢true begun)

-- what is behind a needed aisle, from what is carried to the next one
pub behind_run : (layout : Layout) (picks : List Point) (aisle later span : ℕ) (carried : NeededLengths) → AreNeighbours (block_of layout picks) aisle later →
    later ≤ layout.aisles → span ≡ aisle_offset layout later - aisle_offset layout aisle → AreCarried (PastTheRest layout picks later) carried →
    AreBehind layout picks aisle (on_from (along_run span carried))
behind_run layout picks aisle later span carried are last span_is lengths =
    let block = block_of layout picks in
    let here : aisle ≤ layout.aisles = omega (arith, are.order, last) in
    let on : AreCarried (ThroughAndOn block (layout.aisles - later) later) carried =
    record { least = λ class begun. rest_least layout picks later class (on_from carried class) last (lengths.least class begun) } in
    subst (λ (s : ℕ). AreBehind layout picks aisle (on_from (along_run s carried))) (sym span_is) (record {
      least = λ class. least_rest layout picks aisle class _ here
          (least_before (aisle_length layout) block (layout_even layout picks) (layout.aisles - aisle) aisle
          are.here _ (least_to_needed block layout.aisles aisle later carried are last on) class);
    })

-- what is behind the last needed aisle
pub behind_last : (layout : Layout) (picks : List Point) (last : ℕ) → last ≤ layout.aisles → (ways_of layout picks last).skip ≡ None →
    NoneBetween (block_of layout picks) last (layout.aisles + 1) → AreBehind layout picks last ends
behind_last layout picks last most none behind = record {
  least = λ class. least_rest layout picks last class _ most (least_before (aisle_length layout) (block_of layout picks) (layout_even layout picks)
      (layout.aisles - last) last none ends (least_to_end (block_of layout picks) (layout.aisles - last) last
      (λ a low high. behind a low (omega (arith, high, most)))) class);
}

-- lengths to the end of a tour are short
rest_small : (layout : Layout) (picks : List Point) (aisle : ℕ) (class : Class) (t : ℕ) → IsLayout layout → aisle ≤ layout.aisles →
    PastTheRest layout picks aisle class t → t ≤ 2 ^ 39
rest_small layout picks aisle class t valid last h =
    let block = block_of layout picks in
    let small = block_small layout picks valid in
    let left = layout.aisles - aisle in
    let bound = through_small (λ next more. Onward block left aisle next more) (block.ways aisle) (left * 4060000) (small.ways aisle)
    (λ c r on. onward_small block small left aisle c r on) class t (from_rest layout picks aisle class t last h) in
    omega (arith, bound, valid.aisles)

-- so are those that are carried, and those at the other end of a run
pub carried_short : (layout : Layout) (picks : List Point) (aisle : ℕ) (carried : NeededLengths) → IsLayout layout → aisle ≤ layout.aisles →
    AreCarried (PastTheRest layout picks aisle) carried → AreShort carried
carried_short layout picks aisle carried valid last are = record {
  uu1 = let b = rest_small layout picks aisle UU1 carried.uu1 valid last (are.least UU1 refl).0 in omega (arith, b);
  e01 = let b = rest_small layout picks aisle E01 carried.e01 valid last (are.least E01 refl).0 in omega (arith, b);
  ze1 = let b = rest_small layout picks aisle ZE1 carried.ze1 valid last (are.least ZE1 refl).0 in omega (arith, b);
  ee1 = let b = rest_small layout picks aisle EE1 carried.ee1 valid last (are.least EE1 refl).0 in omega (arith, b);
  ee2 = let b = rest_small layout picks aisle EE2 carried.ee2 valid last (are.least EE2 refl).0 in omega (arith, b);
}

pub along_short : (layout : Layout) (picks : List Point) (aisle span : ℕ) (carried : NeededLengths) → IsLayout layout → aisle ≤ layout.aisles → span ≤ 2 ^ 30 →
    AreCarried (PastTheRest layout picks aisle) carried → AreShort (along_run span carried)
along_short layout picks aisle span carried valid last few are =
    let uu1 = rest_small layout picks aisle UU1 carried.uu1 valid last (are.least UU1 refl).0 in
    let e01 = rest_small layout picks aisle E01 carried.e01 valid last (are.least E01 refl).0 in
    let ze1 = rest_small layout picks aisle ZE1 carried.ze1 valid last (are.least ZE1 refl).0 in
    let ee2 = rest_small layout picks aisle EE2 carried.ee2 valid last (are.least EE2 refl).0 in
    record {
      uu1 = omega (arith, uu1, few);
      e01 = omega (arith, e01, few);
      ze1 = omega (arith, ze1, few);
      ee1 = omega (arith, e01, few);
      ee2 = omega (arith, ee2, few);
    }

-- the least length from the first needed aisle is the least from the first
pub first_aisle : (layout : Layout) (picks : List Point) (first least : ℕ) (ways : AisleWays) (on : Class → Option ℕ) → 1 ≤ first → first ≤ layout.aisles →
    NoneBetween (block_of layout picks) 0 first → (ways_of layout picks first).skip ≡ None → ways ≡ ways_of layout picks first
    → AreBehind layout picks first on →
    Some least ≡ by_some_way ways on Z00 → IsLeastOf (PastTheRest layout picks 1 Z00) (Some least)
first_aisle layout picks first least ways on some last before none is behind e =
    let block = block_of layout picks in
    let all : ℕ = layout.aisles - 1 in
    let left : ℕ = layout.aisles - first in
    let even = layout_even layout picks in
    let count : all ≡ first - 1 + left = omega (arith, some, last) in
    let at : first ≡ 1 + (first - 1) = omega (arith, some) in
    let by : Some least ≡ by_some_way (ways_of layout picks first) on Z00 = e ∙ ap (λ (w : AisleWays). by_some_way w on Z00) is in
    let here : IsLeastOf (PastTheRest layout picks first Z00) (Some least)
    = subst (λ o. IsLeastOf (PastTheRest layout picks first Z00) o) (sym by) (behind.least Z00) in
    least_rest layout picks 1 Z00 (Some least) (omega (arith, some, last))
    (least_between (ThroughAndOn block left first Z00) (ThroughAndOn block all 1 Z00) (Some least)
    (λ t h. itself (ThroughAndOn block all 1 Z00) t
    (first_begins (aisle_length layout) block even (first - 1) all left 1 first t count at (λ a low high. before a low high) h))
    (λ t h. begins_first (aisle_length layout) block even (first - 1) all left 1 first t count at (λ a low high. before a low high) none h)
    (rest_least layout picks first Z00 (Some least) last here))

-- and so it is the length of a shortest tour
least_first : (layout : Layout) (picks : List Point) (total : ℕ) → IsLayout layout → IsLeastOf (PastTheRest layout picks 1 Z00) (Some total) →
    IsLeastFirst (block_of layout picks) (layout.aisles - 1) (Some total)
least_first layout picks total valid is = first_of_run layout picks (layout.aisles + 1 - 1) (Some total) (valid.aisles.0, omega arith) is

pub shortest_layout : (layout : Layout) (picks : List Point) (total : ℕ) → AreSlots layout picks → IsLeastOf (PastTheRest layout picks 1 Z00) (Some total) →
    IsShortest layout picks total
shortest_layout layout picks total slots is
    = shortest layout picks total slots (least_route layout picks total (least_first layout picks total slots.ranges is))

pub small_layout : (layout : Layout) (picks : List Point) (total : ℕ) → AreSlots layout picks → IsLeastOf (PastTheRest layout picks 1 Z00) (Some total) →
    total < 2 ^ 28
small_layout layout picks total slots is = first_small layout picks total slots.ranges (least_first layout picks total slots.ranges is)
