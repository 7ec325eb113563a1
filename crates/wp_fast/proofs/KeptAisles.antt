-- What further picks, and a layout without picks, leave of a tree.
use Rattle.std.proofs.Common.{◌≡◌, ℕ, ◌+◌, ◌*◌, ◌<◌, ◌↔◌, Bool, false, List, Contains, get_or, replicate, arith, refl, ◌⊎◌, ⊎_elim}
use Rattle.std.proofs.Common.{subst, sym, ◌∙◌}
use Rattle.std.proofs.lemmas.List.{get_or-replicate}
use Rattle.wp_model.specs.declared.point.Point.{Point}
use Rattle.wp_model.specs.Limits.{most_aisles}
use Rattle.wp_model.specs.Warehouse.{IsUpTo, Layout, spacing_after}
use Rattle.wp_graph.specs.declared.ways.AisleWays.{AisleWays}
use Rattle.wp_graph.specs.AisleLengths.{ways_of}
use Rattle.wp_graph.specs.PickSets.{AreSlots, HaveSlotIn}
use Rattle.wp_classes.specs.declared.class.Class.{Class}
use Rattle.wp_fast.specs.declared.summary.Summary.{Summary}
use Rattle.wp_fast.specs.Passages.{AreLeast, ByCrossings, ByWays, IsComposed, Stays, Then}
use Rattle.wp_fast.specs.Runs.{PastAisle}
use Rattle.wp_fast.specs.Runs.PastAisle.{on, last, behind}
use Rattle.wp_fast.specs.Trees.{IsTree, IsTreeBut}
use Rattle.wp_fast.proofs.Composing.{least_alike, least_composed}
use Rattle.wp_fast.proofs.PastAisles.{least_behind}
use Rattle.wp_fast.proofs.PickedAisles.{ways_kept}
use Rattle.wp_fast.proofs.SmallPassages.{AreUpTo, least_up_to}
use Rattle.wp_fast.proofs.TreeSteps.{aisle_small}

-- past an aisle it is the same by the same ways
past_same : (layout : Layout) (one other : List Point) (aisle : ℕ) → ways_of layout one aisle ≡ ways_of layout other aisle → (before after : Class) (t : ℕ)
    → PastAisle layout one aisle before after t → PastAisle layout other aisle before after t
past_same layout one other aisle same before after t (on less h) =
    on less (subst (λ (w : AisleWays). Then (ByWays w) (ByCrossings (spacing_after layout aisle)) before after t) same h)
past_same layout one other aisle same before after t (last at h) = last at (subst (λ (w : AisleWays). ByWays w before after t) same h)
past_same layout one other aisle same before after t (behind past h) = behind past h

-- a tree is one for further picks too, but for the aisles in which there are any
pub tree_kept : (layout : Layout) (old more union : List Point) (marks : List Bool) (tree : List Summary) →
    ((p : Point) → Contains union p ↔ (Contains old p ⊎ Contains more p)) →
    ((aisle : ℕ) → IsUpTo most_aisles aisle → get_or marks (63 + aisle) false ≡ false → HaveSlotIn more aisle → ⊥) → IsTree layout old tree
    → IsTreeBut layout union marks tree
tree_kept layout old more union marks tree both marked is = record {
  composed = is.composed;
  small = is.small;
  aisles = λ aisle up unmarked d.
      let same = ways_kept layout old more union aisle both (marked aisle up unmarked) in
      least_alike (PastAisle layout old aisle) (PastAisle layout union aisle) (get_or tree (63 + aisle) d) (past_same layout old union aisle (sym same))
      (past_same layout union old aisle same) (is.aisles aisle up d);
}

-- two sets of slots are one
pub slots_joined : (layout : Layout) (old more union : List Point) → ((p : Point) → Contains union p ↔ (Contains old p ⊎ Contains more p)) →
    AreSlots layout old → AreSlots layout more → AreSlots layout union
slots_joined layout old more union both before further = record {
  ranges = before.ranges;
  slots = λ p has. ⊎_elim (before.slots p) (further.slots p) ((both p).0 has);
}

stays_composed : (summary : Summary) → AreLeast Stays summary → IsComposed summary summary summary
stays_composed summary are =
    least_composed Stays Stays summary summary summary are are
    (least_alike Stays (Then Stays Stays) summary (λ before after t h. (before, (0, t, (refl, refl), h, omega arith))) one are)
  where
    one : (before after : Class) (t : ℕ) → Then Stays Stays before after t → Stays before after t
    one before after t (between, (near, far, first, next, total)) = (first.0 ∙ next.0, omega (arith, total, first.1, next.1))

stays_small : (summary : Summary) → AreLeast Stays summary → AreUpTo 4060000 summary
stays_small summary are = least_up_to Stays summary 4060000 are (λ before after t h. omega (arith, h.1))

-- where each node stands for nothing, it is a tree but for the aisles of the layout
pub nothing_but : (layout : Layout) (picks : List Point) (marks : List Bool) (nothing : Summary) → AreLeast Stays nothing →
    ((aisle : ℕ) → IsUpTo most_aisles aisle → get_or marks (63 + aisle) false ≡ false → layout.aisles < aisle)
    → IsTreeBut layout picks marks (replicate 128 nothing)
nothing_but layout picks marks nothing are marked = record {
  composed = λ node up d.
      let here : get_or (replicate 128 nothing) node d ≡ nothing = get_or-replicate 128 node nothing d (omega (arith, up)) in
      let left : get_or (replicate 128 nothing) (2 * node) d ≡ nothing = get_or-replicate 128 (2 * node) nothing d (omega (arith, up)) in
      let right : get_or (replicate 128 nothing) (2 * node + 1) d ≡ nothing = get_or-replicate 128 (2 * node + 1) nothing d (omega (arith, up)) in
      rw (left, right, here) (stays_composed nothing are);
  small = λ node d before after up.
      let here : get_or (replicate 128 nothing) node d ≡ nothing = get_or-replicate 128 node nothing d (omega (arith, up)) in
      rw here (aisle_small node nothing (omega (arith, up)) (stays_small nothing are) before after);
  aisles = λ aisle up unmarked d.
      let here : get_or (replicate 128 nothing) (63 + aisle) d ≡ nothing = get_or-replicate 128 (63 + aisle) nothing d (omega (arith, up)) in
      rw here (least_behind layout picks aisle nothing (marked aisle up unmarked) are);
}
