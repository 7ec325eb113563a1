-- Marks in words of bits, and the points that they stand for.
use Rattle.std.proofs.Common.{◌≡◌, ℕ, ◌+◌, ◌*◌, ◌/◌, ◌%◌, ◌^◌, ◌<◌, ◌≤◌, Bool, true, List, length, get_or, set, replicate, arith, inl, inr, ap, sym, ◌∙◌, subst}
use Rattle.std.proofs.Common.{◌⊎◌, ⊎_elim, bit_or}
use Rattle.std.specs.Int.{bit_at, w64}
use Rattle.std.specs.List.{range_with_len}
use Rattle.std.proofs.lemmas.Bool.{cases_eq, cases_lt, eqb-true, eq-eqb}
use Rattle.std.proofs.lemmas.List.{get_or-replicate, get_or_past, get_or-set_same, get_or-set_other, length-replicate}
use Rattle.std.proofs.lemmas.Nat.Bits.{bit_at-zero, bit_at_or, bit_at-lt, bit_at_set_same, bit_at_set_other}
use Rattle.wp_model.specs.declared.point.Point.{Point}
use Rattle.wp_model.specs.Warehouse.{Layout, IsSlot}
use Rattle.wp_graph.specs.PickSets.{HasBitsOfBoth, is_marked, points_in, points_where, slots_where}
use Rattle.wp_graph.specs.Members.{Among}
use Rattle.wp_graph.proofs.Members.{among-filter, among-flat_map, among-map, among-range, filter_passed, flat_map_source, map_source, range_bounds}

-- a point that is listed is a slot of the layout, and the test passes there
pub listed_passes : (layout : Layout) (test : ℕ → ℕ → Bool) (point : Point) → Among (points_where layout test) point → IsSlot layout point
    × (test point.aisle point.slot ≡ true)
unfolding points_where slots_where points_in
listed_passes layout test point h =
    let outer = flat_map_source (λ aisle. points_in aisle (slots_where layout test aisle)) (range_with_len 1 layout.aisles) point h in
    let aisle = outer.0 in
    let inner = map_source (λ slot. record { aisle = aisle; slot = slot }) (slots_where layout test aisle) point outer.2 in
    let kept = filter_passed (test aisle) (range_with_len 1 layout.slots) inner.0 inner.1 in
    let here = range_bounds 1 layout.aisles aisle outer.1 in
    let there = range_bounds 1 layout.slots inner.0 kept.0 in
    subst (λ (p : Point). IsSlot layout p × (test p.aisle p.slot ≡ true)) inner.2
    (record { aisle = (here.0, omega arith); slot = (there.0, omega arith) }, kept.1)

-- a slot at which the test passes is listed
pub passing_listed : (layout : Layout) (test : ℕ → ℕ → Bool) (point : Point) → IsSlot layout point → test point.aisle point.slot ≡ true
    → Among (points_where layout test) point
unfolding points_where slots_where points_in
passing_listed layout test point slot passes =
    among-flat_map (λ aisle. points_in aisle (slots_where layout test aisle)) (range_with_len 1 layout.aisles) point.aisle point
    (among-range 1 layout.aisles point.aisle slot.aisle.0 (omega (arith, slot.aisle.1)))
    (among-map (λ s. record { aisle = point.aisle; slot = s }) (slots_where layout test point.aisle) point.slot
    (among-filter (test point.aisle) (range_with_len 1 layout.slots) point.slot
    (among-range 1 layout.slots point.slot slot.slot.0 (omega (arith, slot.slot.1))) passes))

-- words without a bit mark nothing
pub none_marked : (n aisle slot : ℕ) → is_marked (replicate n 0) aisle slot ≡ true → ⊥
unfolding is_marked
none_marked n aisle slot marked =
    let at = 4 * aisle + slot / 64 in
    let empty : get_or (replicate n 0) at 0 ≡ 0 =
    ⊎_elim (λ (lt : at < n). get_or-replicate n at 0 0 lt) (λ (past : n ≤ at). get_or_past (replicate n 0) at 0 (omega (arith, length-replicate {A = ℕ} n 0)))
    (cases_lt at n) in
    let bit : bit_at (get_or (replicate n 0) at 0) (slot % 64) ≡ 1 = eqb-true _ _ marked in
    let clear : bit_at (get_or (replicate n 0) at 0) (slot % 64) ≡ 0 = ap (λ w. bit_at w (slot % 64)) empty ∙ bit_at-zero (slot % 64) in
    omega (arith, bit, clear)

-- the words with one more bit
abbrev pub with_bit : List ℕ → ℕ → ℕ → List ℕ
with_bit words at k = set words at (bit_or (get_or words at 0) (1 * 2 ^ k % 2 ^ 64))

-- a slot whose bit is set is marked
pub marked_same : (words : List ℕ) (aisle slot : ℕ) → length words ≡ 260 → aisle ≤ 64 → slot < 256
    → is_marked (with_bit words (4 * aisle + slot / 64) (slot % 64)) aisle slot ≡ true
unfolding is_marked
marked_same words aisle slot whole low high =
    let at = 4 * aisle + slot / 64 in
    let within : at < length words = omega arith in
    let bit = bit_at_set_same w64 (get_or words at 0) (slot % 64) (omega arith) in
    eq-eqb _ _ (ap (λ w. bit_at w (slot % 64)) (get_or-set_same words at _ 0 within) ∙ bit)

-- what was marked stays so
pub marked_still : (words : List ℕ) (aisle slot at k : ℕ) → length words ≡ 260 → at < 260 → k < 64 → is_marked words aisle slot ≡ true
    → is_marked (with_bit words at k) aisle slot ≡ true
unfolding is_marked
marked_still words aisle slot at k whole within small marked =
    let here = 4 * aisle + slot / 64 in
    let bit = eqb-true _ _ marked in
    ⊎_elim
    (λ (e : here ≡ at).
    let same : get_or (with_bit words at k) here 0 ≡ bit_or (get_or words here 0) (1 * 2 ^ k % 2 ^ 64) =
    subst (λ i. get_or (with_bit words i k) here 0 ≡ bit_or (get_or words here 0) (1 * 2 ^ k % 2 ^ 64)) e (get_or-set_same words here _ 0 (omega arith)) in
    let or = bit_at_or (get_or words here 0) (1 * 2 ^ k % 2 ^ 64) (slot % 64) in
    let top = bit_at-lt (1 * 2 ^ k % 2 ^ 64) (slot % 64) in
    eq-eqb _ _ (ap (λ w. bit_at w (slot % 64)) same ∙ or ∙ omega arith))
    (λ ne. eq-eqb _ _ (ap (λ w. bit_at w (slot % 64)) (get_or-set_other words at here _ 0 ne) ∙ bit))
    (cases_eq here at)

-- what is marked then was marked before, or is that slot
pub marked_before : (words : List ℕ) (aisle slot a s : ℕ) → length words ≡ 260 → aisle ≤ 64 → slot < 256 → a ≤ 64 → s < 256 →
    is_marked (with_bit words (4 * aisle + slot / 64) (slot % 64)) a s ≡ true → ((a ≡ aisle) × (s ≡ slot)) ⊎ (is_marked words a s ≡ true)
unfolding is_marked
marked_before words aisle slot a s whole low high low' high' marked =
    let at = 4 * aisle + slot / 64 in
    let here = 4 * a + s / 64 in
    let bit = eqb-true _ _ marked in
    ⊎_elim
    (λ (e : here ≡ at).
    let same : get_or (with_bit words at (slot % 64)) here 0 ≡ bit_or (get_or words here 0) (1 * 2 ^ (slot % 64) % 2 ^ 64) =
    subst (λ i. get_or (with_bit words i (slot % 64)) here 0 ≡ bit_or (get_or words here 0) (1 * 2 ^ (slot % 64) % 2 ^ 64)) e
    (get_or-set_same words here _ 0 (omega arith)) in
    ⊎_elim
    (λ (k : s % 64 ≡ slot % 64). inl (omega arith, omega arith))
    (λ ne. inr (eq-eqb _ _ (sym (bit_at_set_other w64 (get_or words here 0) (slot % 64) (omega arith) (s % 64) ne) ∙ sym (ap (λ w. bit_at w (s % 64)) same)
    ∙ bit)))
    (cases_eq (s % 64) (slot % 64)))
    (λ ne. inr (eq-eqb _ _ (sym (ap (λ w. bit_at w (s % 64)) (get_or-set_other words at here _ 0 ne)) ∙ bit)))
    (cases_eq here at)

-- where each word has the bits of both, what is marked is marked in one of the two
pub marked_or : (words left right : List ℕ) (aisle slot : ℕ) → ((at : ℕ) → at < 260 → HasBitsOfBoth (get_or left at 0) (get_or right at 0) (get_or words at 0))
    → aisle ≤ 64 → slot < 256 →
    is_marked words aisle slot ≡ true → (is_marked left aisle slot ≡ true) ⊎ (is_marked right aisle slot ≡ true)
unfolding is_marked
marked_or words left right aisle slot each low high marked =
    let at = 4 * aisle + slot / 64 in
    let bit = eqb-true _ _ marked in
    let both = each at (omega arith) (slot % 64) (omega arith) in
    ⊎_elim (λ e. inl (eq-eqb _ _ e)) (λ ne. inr (eq-eqb _ _ (omega (arith, bit_at-lt (get_or left at 0) (slot % 64)))))
    (cases_eq (bit_at (get_or left at 0) (slot % 64)) 1)

-- where each word has the bits of both, what is marked in the first of the two is marked
pub or_marked_left : (words left right : List ℕ) (aisle slot : ℕ)
    → ((at : ℕ) → at < 260 → HasBitsOfBoth (get_or left at 0) (get_or right at 0) (get_or words at 0))
    → aisle ≤ 64 → slot < 256 →
    is_marked left aisle slot ≡ true → is_marked words aisle slot ≡ true
unfolding is_marked
or_marked_left words left right aisle slot each low high marked =
    let at = 4 * aisle + slot / 64 in
    let bit = eqb-true _ _ marked in
    let both = each at (omega arith) (slot % 64) (omega arith) in
    eq-eqb _ _ (omega (arith, bit_at-lt (get_or right at 0) (slot % 64)))

-- where each word has the bits of both, what is marked in the second of the two is marked
pub or_marked_right : (words left right : List ℕ) (aisle slot : ℕ)
    → ((at : ℕ) → at < 260 → HasBitsOfBoth (get_or left at 0) (get_or right at 0) (get_or words at 0))
    → aisle ≤ 64 → slot < 256 →
    is_marked right aisle slot ≡ true → is_marked words aisle slot ≡ true
unfolding is_marked
or_marked_right words left right aisle slot each low high marked =
    let at = 4 * aisle + slot / 64 in
    let bit = eqb-true _ _ marked in
    let both = each at (omega arith) (slot % 64) (omega arith) in
    eq-eqb _ _ (omega (arith, bit_at-lt (get_or left at 0) (slot % 64)))
