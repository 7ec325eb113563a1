-- The test whether a list has a point, and the words that answer it.
use Rattle.std.proofs.Common.{◌≡◌, ℕ, ◌+◌, ◌*◌, ◌/◌, ◌%◌, ◌<◌, ◌≤◌, ◌==◌, Bool, true, false, List, [], ◌∷◌, get_or, arith, refl, inl, inr, ap, sym, ◌∙◌, ⊎_elim}
use Rattle.std.specs.Int.{bit_at}
use Rattle.std.proofs.lemmas.Bool.{and_from, and_parts, eq-eqb, eqb-true, or_cases, or_left, or_right}
use Rattle.wp_model.specs.declared.point.Point.{Point}
use Rattle.wp_model.specs.Warehouse.{Layout, IsUpTo}
use Rattle.wp_graph.specs.PickSets.{MarksSlots, is_marked, points_where}
use Rattle.wp_graph.specs.Required.{has_point, is_at}
use Rattle.wp_graph.specs.Members.{Among}
use Rattle.wp_graph.proofs.Members.{Contains-from_among, among_from_Contains}
use Rattle.wp_graph.proofs.PickSets.{contained_marked, marked_contained, same_point}

-- two tests are the same if each passes where the other does
pub same_tests : (a b : Bool) → (a ≡ true → b ≡ true) → (b ≡ true → a ≡ true) → a ≡ b
same_tests true b there back = sym (there refl)
same_tests false true there back = back refl
same_tests false false there back = refl

-- where the test finds a point, it is one of the list
pub has_among : (points : List Point) (aisle place : ℕ) → has_point points aisle place ≡ true → Among points (record { aisle = aisle; slot = place })
unfolding has_point
has_among [] aisle place h = absurd (cc)
has_among (p ∷ points) aisle place h =
    ⊎_elim
    (λ here. let parts = and_parts (p.aisle == aisle) (p.slot == place) here in
    inl (same_point p (record { aisle = aisle; slot = place }) (eqb-true _ _ parts.0) (eqb-true _ _ parts.1)))
    (λ there. inr (has_among points aisle place there))
    (or_cases (is_at aisle place p) (has_point points aisle place) h)

-- the test finds each point of the list
pub among_has : (points : List Point) (p : Point) → Among points p → has_point points p.aisle p.slot ≡ true
unfolding has_point
among_has [] p h = absurd h
among_has (q ∷ points) p (inl e) =
    or_left (is_at p.aisle p.slot q) _ (and_from _ _ (eq-eqb _ _ (ap (λ (r : Point). r.aisle) e)) (eq-eqb _ _ (ap (λ (r : Point). r.slot) e)))
among_has (q ∷ points) p (inr h) = or_right (is_at p.aisle p.slot q) _ (among_has points p h)

-- the bit of a word tells whether the place is picked
pub word_tells : (layout : Layout) (words : List ℕ) (aisle index k : ℕ) → MarksSlots layout words → IsUpTo layout.aisles aisle → index < 4 → k < 64 →
    (bit_at (get_or words (4 * aisle + index) 0) k == 1) ≡ has_point (points_where layout (is_marked words)) aisle (64 * index + k)
unfolding is_marked
word_tells layout words aisle index k marks within low small =
    let place = 64 * index + k in
    let word : 4 * aisle + place / 64 ≡ 4 * aisle + index = omega arith in
    let bit : place % 64 ≡ k = omega arith in
    let marked : is_marked words aisle place ≡ (bit_at (get_or words (4 * aisle + index) 0) k == 1) =
    ap (λ w. bit_at (get_or words w 0) (place % 64) == 1) word ∙ ap (λ b. bit_at (get_or words (4 * aisle + index) 0) b == 1) bit in
    let point : Point = record { aisle = aisle; slot = place } in
    let inside : aisle ≤ 64 = omega (arith, marks.ranges.aisles) in
    same_tests _ _
    (λ set. among_has _ point (among_from_Contains _ point (marked_contained layout words point (marks.slots aisle place inside (omega arith) (marked ∙ set))
    (marked ∙ set))))
    (λ has. sym marked ∙ (contained_marked layout words point (Contains-from_among _ point (has_among _ aisle place has))).1)
