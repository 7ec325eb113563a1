-- What adding a slot, joining a set and looking a slot up come to, in points.
use Rattle.std.proofs.Common.{◌≡◌, ℕ, ◌+◌, ◌*◌, ◌/◌, ◌%◌, ◌<◌, ◌↔◌, true, List, [], length, get_or, replicate, arith, inl, inr, sym, subst, ◌⊎◌, ⊎_elim}
use Rattle.std.proofs.Common.{Contains}
use Rattle.wp_model.specs.declared.point.Point.{Point}
use Rattle.wp_model.specs.Warehouse.{Layout, IsSlot}
use Rattle.wp_graph.specs.PickSets.{AreSlots, HasBitsOfBoth, MarksSlots, is_marked, points_where}
use Rattle.wp_graph.proofs.Marks.{listed_passes, marked_before, marked_or, marked_same, marked_still, none_marked, or_marked_left, or_marked_right}
use Rattle.wp_graph.proofs.Marks.{passing_listed, with_bit}
use Rattle.wp_graph.proofs.Members.{Contains-from_among, among_from_Contains, nil_from_none}

-- two points of the same aisle and slot are the same
pub same_point : (p q : Point) → p.aisle ≡ q.aisle → p.slot ≡ q.slot → p ≡ q
same_point p q a s = λ i. record { aisle = a i; slot = s i }

-- a point of the set is a slot of the layout, and marked
pub contained_marked : (layout : Layout) (words : List ℕ) (p : Point) → Contains (points_where layout (is_marked words)) p → IsSlot layout p
    × (is_marked words p.aisle p.slot ≡ true)
contained_marked layout words p h = listed_passes layout (is_marked words) p (among_from_Contains _ p h)

-- a marked slot of the layout is a point of the set
pub marked_contained : (layout : Layout) (words : List ℕ) (p : Point) → IsSlot layout p → is_marked words p.aisle p.slot ≡ true
    → Contains (points_where layout (is_marked words)) p
marked_contained layout words p slot marked = Contains-from_among _ p (passing_listed layout (is_marked words) p slot marked)

-- the points of a set are slots of its layout
pub points_slots : {layout : Layout} {words : List ℕ} → MarksSlots layout words → AreSlots layout (points_where layout (is_marked words))
points_slots {layout} {words} marks = record { ranges = marks.ranges; slots = λ p has. (contained_marked layout words p has).0 }

-- words without a bit stand for no points
pub unmarked_points : (layout : Layout) (words : List ℕ) → words ≡ replicate 260 0 → points_where layout (is_marked words) ≡ []
unmarked_points layout words empty =
    nil_from_none _ (λ point listed. none_marked 260 point.aisle point.slot (rw empty at ((listed_passes layout (is_marked words) point listed).1)))

-- one more bit, for a slot of the layout
pub record AddsBit (layout : Layout) (words : List ℕ) (point : Point) (at : ℕ) : Type 0 where
  pub before : MarksSlots layout words
  pub whole : length words ≡ 260
  pub slot : IsSlot layout point
  pub place : at ≡ 4 * point.aisle + point.slot / 64

-- with one more bit, still only slots of the layout are marked
pub added_slots : {layout : Layout} {words : List ℕ} {point : Point} {at : ℕ} → AddsBit layout words point at
    → MarksSlots layout (with_bit words at (point.slot % 64))
added_slots {layout} {words} {point} {at} h = record {
  ranges = h.before.ranges;
  slots = λ aisle slot low high marked.
      let l = h.before.ranges in
      ⊎_elim (λ e. subst (λ (p : Point). IsSlot layout p) (sym (same_point (record { aisle = aisle; slot = slot }) point e.0 e.1)) h.slot)
      (h.before.slots aisle slot low high)
      (marked_before words point.aisle point.slot aisle slot h.whole (omega (arith, h.slot.aisle, l.aisles)) (omega (arith, h.slot.slot, l.slots)) low high
      (subst (λ (i : ℕ). is_marked (with_bit words i (point.slot % 64)) aisle slot ≡ true) h.place marked));
}

-- with one more bit, the set has its points and this one
pub added_points : {layout : Layout} {words : List ℕ} {point : Point} {at : ℕ} → AddsBit layout words point at → (p : Point) →
    Contains (points_where layout (is_marked (with_bit words at (point.slot % 64)))) p ↔ (Contains (points_where layout (is_marked words)) p ⊎ (p ≡ point))
added_points {layout} {words} {point} {at} h p =
    let l = h.before.ranges in (
      λ has. let m = contained_marked layout _ p has in
          ⊎_elim (λ e. inr (same_point p point e.0 e.1)) (λ b. inl (marked_contained layout words p m.0 b))
          (marked_before words point.aisle point.slot p.aisle p.slot h.whole (omega (arith, h.slot.aisle, l.aisles)) (omega (arith, h.slot.slot, l.slots))
          (omega (arith, m.0.aisle, l.aisles)) (omega (arith, m.0.slot, l.slots))
          (subst (λ (i : ℕ). is_marked (with_bit words i (point.slot % 64)) p.aisle p.slot ≡ true) h.place m.1)),
      λ has. ⊎_elim
          (λ b. let m = contained_marked layout words p b in
          marked_contained layout _ p m.0 (marked_still words p.aisle p.slot at (point.slot % 64) h.whole
          (omega (arith, h.place, h.slot.aisle, h.slot.slot, l.aisles, l.slots)) (omega arith) m.1))
          (λ e. subst (λ (q : Point). Contains (points_where layout (is_marked (with_bit words at (point.slot % 64)))) q) (sym e)
          (marked_contained layout _ point h.slot (subst (λ (i : ℕ). is_marked (with_bit words i (point.slot % 64)) point.aisle point.slot ≡ true) (sym h.place)
          (marked_same words point.aisle point.slot h.whole (omega (arith, h.slot.aisle, l.aisles)) (omega (arith, h.slot.slot, l.slots))))))
          has,
    )

-- the words of one set with the bits of another of the same layout
pub record JoinsBits (layout : Layout) (words left right : List ℕ) : Type 0 where
  pub left_marks : MarksSlots layout left
  pub right_marks : MarksSlots layout right
  pub each : (at : ℕ) → at < 260 → HasBitsOfBoth (get_or left at 0) (get_or right at 0) (get_or words at 0)

-- with the bits of both, still only slots of the layout are marked
pub joined_slots : {layout : Layout} {words left right : List ℕ} → JoinsBits layout words left right → MarksSlots layout words
joined_slots {layout} {words} {left} {right} h = record {
  ranges = h.left_marks.ranges;
  slots = λ aisle slot low high marked. ⊎_elim (h.left_marks.slots aisle slot low high) (h.right_marks.slots aisle slot low high)
      (marked_or words left right aisle slot h.each low high marked);
}

-- with the bits of both, the set has the points of both
pub joined_points : {layout : Layout} {words left right : List ℕ} → JoinsBits layout words left right → (p : Point) →
    Contains (points_where layout (is_marked words)) p ↔ (Contains (points_where layout (is_marked left)) p ⊎ Contains
    (points_where layout (is_marked right)) p)
joined_points {layout} {words} {left} {right} h p =
    let l = h.left_marks.ranges in (
      λ has. let m = contained_marked layout words p has in
          ⊎_elim (λ b. inl (marked_contained layout left p m.0 b)) (λ b. inr (marked_contained layout right p m.0 b))
          (marked_or words left right p.aisle p.slot h.each (omega (arith, m.0.aisle, l.aisles)) (omega (arith, m.0.slot, l.slots)) m.1),
      λ has. ⊎_elim
          (λ b. let m = contained_marked layout left p b in
          marked_contained layout words p m.0 (or_marked_left words left right p.aisle p.slot h.each (omega (arith, m.0.aisle, l.aisles))
          (omega (arith, m.0.slot, l.slots)) m.1))
          (λ b. let m = contained_marked layout right p b in
          marked_contained layout words p m.0 (or_marked_right words left right p.aisle p.slot h.each (omega (arith, m.0.aisle, l.aisles))
          (omega (arith, m.0.slot, l.slots)) m.1))
          has,
    )
