-- The straight way from a stop to the next is a path, and passes what lies between them in their aisle.
use Rattle.std.proofs.Common.{◌≡◌, ◌≢◌, ℕ, zero, suc, ◌+◌, ◌-◌, ◌<◌, ◌≤◌, ◌==◌, nat_le, List, [], ◌∷◌, arith, refl, sym, ap, subst, inl, inr, ◌⊎◌}
use Rattle.std.proofs.lemmas.Bool.{cases_eq, cases_lt, cond-true, cond-false, eq-eqb, ne_eqb, le-leb, lt-leb}
use Rattle.wp_model.specs.declared.point.Point.{Point}
use Rattle.wp_model.specs.Warehouse.{IsUpTo, Layout, back_end, spacing_after}
use Rattle.wp_graph.specs.Offsets.{aisle_offset}
use Rattle.wp_graph.specs.Required.{distance}
use Rattle.wp_classes.specs.Paths.{On, Path, ahead, at, behind}
use Rattle.wp_classes.proofs.Paths.{on_ahead, on_behind, path_ahead, path_behind, path_join, path_left, path_right}
use Rattle.wp_rules.specs.Straight.{AreInLine, along_end, apart, in_aisle, leftward, rightward, straight, straight_length}

-- a place at one of the ends
abbrev pub IsEndPlace : Layout → ℕ → Type 0
IsEndPlace layout place = (place ≡ 0) ⊎ (place ≡ back_end layout)

rightward_path : (layout : Layout) (aisle place n : ℕ) → IsEndPlace layout place → 1 ≤ aisle → aisle + n ≤ layout.aisles → (t : ℕ)
    × Path layout (at aisle place) (rightward aisle place n) (at (aisle + n) place) t × (aisle_offset layout aisle + t ≡ aisle_offset layout (aisle + n))
rightward_path layout aisle place zero end low high =
    let same : aisle ≡ aisle + 0 = omega arith in
    (0, (ap (λ a. at a place) same, refl), omega (arith, ap (λ a. aisle_offset layout a) same))
rightward_path layout aisle place (suc n) end low high =
    let rest = rightward_path layout (suc aisle) place n end (omega arith) (omega arith) in
    let same : suc aisle + n ≡ aisle + suc n = omega arith in
    let across = path_right layout aisle place (record { low = low; high = omega arith; is_end = end }) in
    let far = ap (λ a. aisle_offset layout a) same in (
      spacing_after layout aisle + rest.0,
      path_join layout (at aisle place) (at (suc aisle) place) (at (aisle + suc n) place) (at (suc aisle) place ∷ []) (rightward (suc aisle) place n)
          (spacing_after layout aisle) rest.0 across
          (subst (λ (a : ℕ). Path layout (at (suc aisle) place) (rightward (suc aisle) place n) (at a place) rest.0) same rest.1),
      omega (arith, rest.2, far),
    )

leftward_path : (layout : Layout) (aisle place n : ℕ) → IsEndPlace layout place → 1 ≤ aisle → aisle + n ≤ layout.aisles → (t : ℕ)
    × Path layout (at (aisle + n) place) (leftward aisle place n) (at aisle place) t × (aisle_offset layout aisle + t ≡ aisle_offset layout (aisle + n))
leftward_path layout aisle place zero end low high =
    let same : aisle + 0 ≡ aisle = omega arith in
    (0, (ap (λ a. at a place) same, refl), omega (arith, ap (λ a. aisle_offset layout a) same))
leftward_path layout aisle place (suc n) end low high =
    let rest = leftward_path layout aisle place n end low (omega arith) in
    let same : suc (aisle + n) ≡ aisle + suc n = omega arith in
    let across = subst (λ (a : ℕ). Path layout (at a place) (at (aisle + n) place ∷ []) (at (aisle + n) place) (spacing_after layout (aisle + n))) same
    (path_left layout (aisle + n) place (record { low = omega arith; high = omega arith; is_end = end })) in
    let far = ap (λ a. aisle_offset layout a) same in (
      spacing_after layout (aisle + n) + rest.0,
      path_join layout (at (aisle + suc n) place) (at (aisle + n) place) (at aisle place) (at (aisle + n) place ∷ []) (leftward aisle place n)
          (spacing_after layout (aisle + n)) rest.0 across rest.1,
      omega (arith, rest.2, far),
    )

-- the two directions, as the tests tell them
pub up_in : (aisle from to : ℕ) → from ≤ to → in_aisle aisle from to ≡ ahead aisle from (to - from)
unfolding in_aisle
up_in aisle from to order = cond-true (nat_le from to) (ahead aisle from (to - from)) (behind aisle to (from - to)) (le-leb from to order)

pub down_in : (aisle from to : ℕ) → to < from → in_aisle aisle from to ≡ behind aisle to (from - to)
unfolding in_aisle
down_in aisle from to order = cond-false (nat_le from to) (ahead aisle from (to - from)) (behind aisle to (from - to)) (lt-leb from to order)

pub right_on : (place from to : ℕ) → from ≤ to → along_end place from to ≡ rightward from place (to - from)
unfolding along_end
right_on place from to order = cond-true (nat_le from to) (rightward from place (to - from)) (leftward to place (from - to)) (le-leb from to order)

pub left_on : (place from to : ℕ) → to < from → along_end place from to ≡ leftward to place (from - to)
unfolding along_end
left_on place from to order = cond-false (nat_le from to) (rightward from place (to - from)) (leftward to place (from - to)) (lt-leb from to order)

pub straight_in : (from to : Point) → from.aisle ≡ to.aisle → straight from to ≡ in_aisle from.aisle from.slot to.slot
unfolding straight
straight_in from to e = cond-true (from.aisle == to.aisle) (in_aisle from.aisle from.slot to.slot) (along_end from.slot from.aisle to.aisle)
    (eq-eqb from.aisle to.aisle e)

pub straight_on : (from to : Point) → from.aisle ≢ to.aisle → straight from to ≡ along_end from.slot from.aisle to.aisle
unfolding straight
straight_on from to ne = cond-false (from.aisle == to.aisle) (in_aisle from.aisle from.slot to.slot) (along_end from.slot from.aisle to.aisle)
    (ne_eqb from.aisle to.aisle ne)

pub length_is : (layout : Layout) (from to : Point) → straight_length layout from to
    ≡ apart (distance layout from.slot) (distance layout to.slot) + apart (aisle_offset layout from.aisle) (aisle_offset layout to.aisle)
unfolding straight_length
length_is layout from to = refl

in_aisle_path : (layout : Layout) (aisle from to : ℕ) → IsUpTo layout.aisles aisle → from ≤ back_end layout → to ≤ back_end layout
    → Path layout (at aisle from) (in_aisle aisle from to) (at aisle to) (apart (distance layout from) (distance layout to))
in_aisle_path layout aisle from to within low high = elim (cases_lt to from) [
  | inl less ↦
      let back : to + (from - to) ≡ from = omega arith in
      let path = path_behind layout aisle to (from - to) within (omega arith) in
      let far = ap (λ s. distance layout s) back in
      let long : path.0 ≡ apart (distance layout from) (distance layout to) = omega (arith, path.2, far) in
      subst (λ (points : List Point). Path layout (at aisle from) points (at aisle to) (apart (distance layout from) (distance layout to)))
      (sym (down_in aisle from to less))
      (subst (λ (t : ℕ). Path layout (at aisle from) (behind aisle to (from - to)) (at aisle to) t) long
      (subst (λ (s : ℕ). Path layout (at aisle s) (behind aisle to (from - to)) (at aisle to) path.0) back path.1))
  | inr more ↦
      let on : from + (to - from) ≡ to = omega arith in
      let path = path_ahead layout aisle from (to - from) within (omega arith) in
      let far = ap (λ s. distance layout s) on in
      let long : path.0 ≡ apart (distance layout from) (distance layout to) = omega (arith, path.2, far) in
      subst (λ (points : List Point). Path layout (at aisle from) points (at aisle to) (apart (distance layout from) (distance layout to)))
      (sym (up_in aisle from to more))
      (subst (λ (t : ℕ). Path layout (at aisle from) (ahead aisle from (to - from)) (at aisle to) t) long
      (subst (λ (s : ℕ). Path layout (at aisle from) (ahead aisle from (to - from)) (at aisle s) path.0) on path.1))
]

along_end_path : (layout : Layout) (place from to : ℕ) → IsEndPlace layout place → IsUpTo layout.aisles from → IsUpTo layout.aisles to
    → Path layout (at from place) (along_end place from to) (at to place) (apart (aisle_offset layout from) (aisle_offset layout to))
along_end_path layout place from to end low high = elim (cases_lt to from) [
  | inl less ↦
      let back : to + (from - to) ≡ from = omega arith in
      let path = leftward_path layout to place (from - to) end high.0 (omega (arith, low.1)) in
      let far = ap (λ a. aisle_offset layout a) back in
      let long : path.0 ≡ apart (aisle_offset layout from) (aisle_offset layout to) = omega (arith, path.2, far) in
      subst (λ (points : List Point). Path layout (at from place) points (at to place) (apart (aisle_offset layout from) (aisle_offset layout to)))
      (sym (left_on place from to less))
      (subst (λ (t : ℕ). Path layout (at from place) (leftward to place (from - to)) (at to place) t) long
      (subst (λ (a : ℕ). Path layout (at a place) (leftward to place (from - to)) (at to place) path.0) back path.1))
  | inr more ↦
      let on : from + (to - from) ≡ to = omega arith in
      let path = rightward_path layout from place (to - from) end low.0 (omega (arith, high.1)) in
      let far = ap (λ a. aisle_offset layout a) on in
      let long : path.0 ≡ apart (aisle_offset layout from) (aisle_offset layout to) = omega (arith, path.2, far) in
      subst (λ (points : List Point). Path layout (at from place) points (at to place) (apart (aisle_offset layout from) (aisle_offset layout to)))
      (sym (right_on place from to more))
      (subst (λ (t : ℕ). Path layout (at from place) (rightward from place (to - from)) (at to place) t) long
      (subst (λ (a : ℕ). Path layout (at from place) (rightward from place (to - from)) (at a place) path.0) on path.1))
]

-- the straight way between two stops in line is a path of its length
pub straight_path : (layout : Layout) (from to : Point) → AreInLine layout from to
    → Path layout from (straight from to) to (straight_length layout from to)
straight_path layout from to is = elim (cases_eq from.aisle to.aisle) [
  | inl e ↦
      let same = ap (λ a. aisle_offset layout a) e in
      let long : apart (distance layout from.slot) (distance layout to.slot) ≡ straight_length layout from to = omega (arith, length_is layout from to, same) in
      subst (λ (points : List Point). Path layout from points to (straight_length layout from to)) (sym (straight_in from to e))
      (subst (λ (t : ℕ). Path layout from (in_aisle from.aisle from.slot to.slot) to t) long
      (subst (λ (a : ℕ). Path layout from (in_aisle from.aisle from.slot to.slot) (at a to.slot) (apart (distance layout from.slot) (distance layout to.slot)))
      e
      (in_aisle_path layout from.aisle from.slot to.slot is.from_point.aisle is.from_point.slot is.to_point.slot)))
  | inr ne ↦ elim is.line [
    | inl e ↦ absurd (ne e)
    | inr line ↦
        let same = ap (λ s. distance layout s) line.0 in
        let long : apart (aisle_offset layout from.aisle) (aisle_offset layout to.aisle) ≡ straight_length layout from to
        = omega (arith, length_is layout from to, same) in
        subst (λ (points : List Point). Path layout from points to (straight_length layout from to)) (sym (straight_on from to ne))
        (subst (λ (t : ℕ). Path layout from (along_end from.slot from.aisle to.aisle) to t) long
        (subst (λ (s : ℕ). Path layout from (along_end from.slot from.aisle to.aisle) (at to.aisle s)
        (apart (aisle_offset layout from.aisle) (aisle_offset layout to.aisle))) line.0
        (along_end_path layout from.slot from.aisle to.aisle line.1 is.from_point.aisle is.to_point.aisle)))
  ]
]

-- the places between two of an aisle lie on the straight way
pub on_straight : (aisle from to s : ℕ) → ((from ≤ s) × (s ≤ to)) ⊎ ((to ≤ s) × (s ≤ from))
    → On (at aisle from) (straight (at aisle from) (at aisle to)) (at aisle s)
on_straight aisle from to s between =
    let is = straight_in (at aisle from) (at aisle to) refl in
    subst (λ (points : List Point). On (at aisle from) points (at aisle s)) (sym is) (elim (cases_lt to from) [
      | inl less ↦
          let back : to + (from - to) ≡ from = omega arith in
          let low : to ≤ s = elim between [ inl up ↦ omega (arith, up) | inr down ↦ omega (arith, down) ] in
          let high : s ≤ from = elim between [ inl up ↦ omega (arith, up) | inr down ↦ omega (arith, down) ] in
          subst (λ (points : List Point). On (at aisle from) points (at aisle s)) (sym (down_in aisle from to less))
          (subst (λ (x : ℕ). On (at aisle x) (behind aisle to (from - to)) (at aisle s)) back (on_behind aisle to (from - to) s low (omega arith)))
      | inr more ↦
          let low : from ≤ s = elim between [ inl up ↦ omega (arith, up) | inr down ↦ omega (arith, down) ] in
          let high : s ≤ to = elim between [ inl up ↦ omega (arith, up) | inr down ↦ omega (arith, down) ] in
          subst (λ (points : List Point). On (at aisle from) points (at aisle s)) (sym (up_in aisle from to more))
          (on_ahead aisle from (to - from) s low (omega arith))
    ])
