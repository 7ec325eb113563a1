-- Which aisles are needed, by the points and by the bits of a word.
use Rattle.std.proofs.Common.{◌≡◌, ℕ, ◌+◌, ◌-◌, ◌*◌, ◌/◌, ◌%◌, ◌^◌, ◌<◌, ◌≤◌, ◌↔◌, ◌⊎◌, true, false, List, [], ◌∷◌, Some, None, bit_or, get_or, Contains}
use Rattle.std.proofs.Common.{arith, refl, inl, inr, ap, sym, ◌∙◌, subst, ⊎_elim}
use Rattle.std.specs.Int.{bit_at, trailing_zeros, w64}
use Rattle.std.specs.List.{list_any}
use Rattle.std.proofs.lemmas.Bool.{cases_eq, cases_lt, eq-eqb, eqb-true, false≢true, ne_eqb, or_cases, or_left, or_right}
use Rattle.std.proofs.lemmas.Nat.{shr-shr, shr_le}
use Rattle.std.proofs.lemmas.Nat.Bits.{bit_at-lt, bit_at-pow_other, bit_at-pow_same, bit_at-trailing_zeros, bit_at-zero, bit_at_above, bit_at_or}
use Rattle.wp_model.specs.declared.point.Point.{Point}
use Rattle.wp_model.specs.Warehouse.{Layout, IsLayout, IsUpTo, depot_point}
use Rattle.wp_graph.specs.Members.{Among}
use Rattle.wp_graph.specs.NeededAisles.{IsLastNeededBefore, MarksNeeded, is_needed, lies_in}
use Rattle.wp_graph.specs.PickSets.{AreBareElsewhere, KeepsSlots, is_marked}
use Rattle.wp_graph.proofs.Members.{Contains-from_among, among_from_Contains}
use Rattle.wp_graph.proofs.PickSets.{marked_contained}
use Rattle.wp_graph.proofs.PointTests.{same_tests}

-- why an aisle is needed: the depot lies in it, or a point of the list does
abbrev pub IsNeeded : Layout → List Point → ℕ → Type 0
IsNeeded layout points aisle = (layout.depot ≡ aisle) ⊎ ((point : Point) × Contains points point × (point.aisle ≡ aisle))

any_lies : (points : List Point) (aisle : ℕ) → list_any (lies_in aisle) points ≡ true → (point : Point) × Among points point × (point.aisle ≡ aisle)
any_lies [] aisle h = absurd (false≢true h)
any_lies (p ∷ points) aisle h =
    ⊎_elim (λ here. (p, inl refl, eqb-true _ _ here)) (λ there. let rest = any_lies points aisle there in (rest.0, inr rest.1, rest.2))
    (or_cases (lies_in aisle p) (list_any (lies_in aisle) points) h)

-- some point lies in the aisle of a point of the list
pub lies_any : (points : List Point) (p : Point) → Among points p → list_any (lies_in p.aisle) points ≡ true
lies_any [] p h = absurd h
lies_any (q ∷ points) p (inl e) = or_left (lies_in p.aisle q) _ (eq-eqb _ _ (ap (λ (r : Point). r.aisle) e))
lies_any (q ∷ points) p (inr h) = or_right (lies_in p.aisle q) _ (lies_any points p h)

-- there is a reason for a needed aisle
pub needed_cases : (layout : Layout) (points : List Point) (aisle : ℕ) → is_needed layout points aisle ≡ true → IsNeeded layout points aisle
unfolding is_needed
needed_cases layout points aisle h =
    ⊎_elim (λ here. inl (eqb-true _ _ here))
    (λ there. let p = any_lies points aisle there in inr (p.0, Contains-from_among _ _ p.1, p.2))
    (or_cases (lies_in aisle (depot_point layout)) (list_any (lies_in aisle) points) h)

-- and each reason makes it needed
pub needed_from : (layout : Layout) (points : List Point) (aisle : ℕ) → IsNeeded layout points aisle → is_needed layout points aisle ≡ true
unfolding is_needed
needed_from layout points aisle (inl e) = or_left (lies_in aisle (depot_point layout)) _ (eq-eqb _ _ e)
needed_from layout points aisle (inr (p, has, e)) =
    or_right (lies_in aisle (depot_point layout)) _ (subst (λ (a : ℕ). list_any (lies_in a) points ≡ true) e (lies_any points p (among_from_Contains _ p has)))

-- with more points no aisle is needed less
needed_more : (layout : Layout) (few more : List Point) (aisle : ℕ) → ((p : Point) → Contains few p → Contains more p) → IsNeeded layout few aisle →
    IsNeeded layout more aisle
needed_more layout few more aisle all (inl e) = inl e
needed_more layout few more aisle all (inr (p, has, e)) = inr (p, all p has, e)

-- a bit of two words joined is one of the first or of the second
or_bit : (a b i : ℕ) → bit_at (bit_or a b) i ≡ 1 → (bit_at a i ≡ 1) ⊎ (bit_at b i ≡ 1)
or_bit a b i on =
    let both = bit_at_or a b i in
    ⊎_elim (λ e. inl e) (λ ne. inr (omega (arith, both, on, bit_at-lt a i, bit_at-lt b i))) (cases_eq (bit_at a i) 1)

or_bit_left : (a b i : ℕ) → bit_at a i ≡ 1 → bit_at (bit_or a b) i ≡ 1
or_bit_left a b i on = omega (arith, bit_at_or a b i, on, bit_at-lt b i)

or_bit_right : (a b i : ℕ) → bit_at b i ≡ 1 → bit_at (bit_or a b) i ≡ 1
or_bit_right a b i on = omega (arith, bit_at_or a b i, on, bit_at-lt a i)

-- the only bit of a power of two
only_bit : (k i : ℕ) → bit_at (2 ^ k) i ≡ 1 → i ≡ k
only_bit k i on = ⊎_elim (λ e. e) (λ ne. let off = bit_at-pow_other k i ne in absurd (omega (arith, off, on))) (cases_eq i k)

-- the bit of an aisle
aisle_bit : (one aisle : ℕ) → one ≡ aisle → bit_at (2 ^ (64 - one)) (64 - aisle) ≡ 1
aisle_bit one aisle e = subst (λ (a : ℕ). bit_at (2 ^ (64 - one)) (64 - a) ≡ 1) e (bit_at-pow_same (64 - one))

-- a word marks the needed aisles, if it has the bits of those for which there is a reason
marks_by : {layout : Layout} {points : List Point} {word : ℕ} →
    ((aisle : ℕ) → IsUpTo 64 aisle → (bit_at word (64 - aisle) ≡ 1) ↔ IsNeeded layout points aisle) → MarksNeeded layout points word
marks_by {layout} {points} by = record {
  bits = λ aisle within. same_tests _ _ (λ on. needed_from layout points aisle ((by aisle within).0 (eqb-true _ _ on)))
      (λ needed. eq-eqb _ _ ((by aisle within).1 (needed_cases layout points aisle needed)));
}

-- there is a reason for each bit
bit_needed : {layout : Layout} {points : List Point} {word : ℕ} → MarksNeeded layout points word → (aisle : ℕ) → IsUpTo 64 aisle
    → bit_at word (64 - aisle) ≡ 1 →
    IsNeeded layout points aisle
bit_needed {layout} {points} marks aisle within on = needed_cases layout points aisle (sym (marks.bits aisle within) ∙ eq-eqb _ _ on)

-- and for each reason a bit
needed_bit : {layout : Layout} {points : List Point} {word : ℕ} → MarksNeeded layout points word → (aisle : ℕ) → IsUpTo 64 aisle
    → IsNeeded layout points aisle →
    bit_at word (64 - aisle) ≡ 1
needed_bit {layout} {points} marks aisle within why = eqb-true _ _ (marks.bits aisle within ∙ needed_from layout points aisle why)

-- with no point, the depot's aisle alone is needed
pub depot_alone : (layout : Layout) → IsLayout layout → MarksNeeded layout [] (2 ^ (64 - layout.depot))
depot_alone layout valid = marks_by (λ aisle within. (
  λ on. let e = only_bit (64 - layout.depot) (64 - aisle) on in inl (omega (arith, e, within, valid.depot, valid.aisles)),
  λ why. ⊎_elim (λ e. aisle_bit layout.depot aisle e) (λ p. absurd (let c = p.1 in let past = c.1 in omega (arith, past))) why,
))

-- with one more point, its aisle is needed too
pub one_more_needed : {layout : Layout} {before after : List Point} {word : ℕ} (point : Point) → MarksNeeded layout before word → IsUpTo 64 point.aisle →
    ((p : Point) → Contains after p ↔ (Contains before p ⊎ (p ≡ point))) → MarksNeeded layout after (bit_or word (2 ^ (64 - point.aisle)))
one_more_needed {layout} {before} {after} {word} point marks inside points = marks_by (λ aisle within. (
  λ on. ⊎_elim (λ was. needed_more layout before after aisle (λ p has. (points p).1 (inl has)) (bit_needed marks aisle within was))
      (λ new. let e = only_bit (64 - point.aisle) (64 - aisle) new in inr (point, (points point).1 (inr refl), omega (arith, e, within, inside)))
      (or_bit word (2 ^ (64 - point.aisle)) (64 - aisle) on),
  λ why. ⊎_elim (λ e. or_bit_left word _ (64 - aisle) (needed_bit marks aisle within (inl e)))
      (λ p. ⊎_elim (λ had. or_bit_left word _ (64 - aisle) (needed_bit marks aisle within (inr (p.0, had, p.2))))
      (λ e. or_bit_right word _ (64 - aisle) (aisle_bit point.aisle aisle (sym (ap (λ (q : Point). q.aisle) e) ∙ p.2))) ((points p.0).0 p.1))
      why,
))

-- with the points of two lists, the aisles of both are needed
pub both_needed : {layout : Layout} {left right after : List Point} {one other : ℕ} → MarksNeeded layout left one → MarksNeeded layout right other →
    ((p : Point) → Contains after p ↔ (Contains left p ⊎ Contains right p)) → MarksNeeded layout after (bit_or one other)
both_needed {layout} {left} {right} {after} {one} {other} lefts rights points = marks_by (λ aisle within. (
  λ on. ⊎_elim (λ l. needed_more layout left after aisle (λ p has. (points p).1 (inl has)) (bit_needed lefts aisle within l))
      (λ r. needed_more layout right after aisle (λ p has. (points p).1 (inr has)) (bit_needed rights aisle within r))
      (or_bit one other (64 - aisle) on),
  λ why. ⊎_elim (λ e. or_bit_left one other (64 - aisle) (needed_bit lefts aisle within (inl e)))
      (λ p. ⊎_elim (λ l. or_bit_left one other (64 - aisle) (needed_bit lefts aisle within (inr (p.0, l, p.2))))
      (λ r. or_bit_right one other (64 - aisle) (needed_bit rights aisle within (inr (p.0, r, p.2)))) ((points p.0).0 p.1))
      why,
))

-- the words of an aisle without a bit have none either
pub bare_elsewhere : {layout : Layout} {words : List ℕ} {needed : ℕ} → KeepsSlots layout words needed → AreBareElsewhere needed words
unfolding is_marked
bare_elsewhere {layout} {words} {needed} keeps at within off k small =
    ⊎_elim (λ on. absurd (omega (arith, off, marked on))) (λ ne. let below = bit_at-lt (get_or words at 0) k in omega (arith, ne, below))
    (cases_eq (bit_at (get_or words at 0) k) 1)
  where
    point : Point
    point = record { aisle = at / 4; slot = 64 * (at % 4) + k }

    marked : bit_at (get_or words at 0) k ≡ 1 → bit_at needed (64 - at / 4) ≡ 1
    marked on =
        let word : 4 * (at / 4) + (64 * (at % 4) + k) / 64 ≡ at = omega arith in
        let bit : (64 * (at % 4) + k) % 64 ≡ k = omega arith in
        let here : is_marked words (at / 4) (64 * (at % 4) + k) ≡ true = eq-eqb _ _
        (ap (λ (w : ℕ). bit_at (get_or words w 0) ((64 * (at % 4) + k) % 64)) word ∙ ap (λ (b : ℕ). bit_at (get_or words at 0) b) bit ∙ on) in
        let slot = keeps.marks.slots (at / 4) (64 * (at % 4) + k) (omega arith) (omega arith) here in
        let has = marked_contained layout words point slot here in
        let upto : IsUpTo 64 (at / 4) = (slot.aisle.0, omega (arith, slot.aisle, keeps.marks.ranges.aisles)) in
        needed_bit keeps.aisles (at / 4) upto (inr (point, has, refl))

-- an aisle's bit in the word from an earlier bit on
later_bit : (word aisle before : ℕ) → aisle ≤ 65 → before < aisle → bit_at (word / 2 ^ (65 - aisle)) (aisle - 1 - before) ≡ bit_at word (64 - before)
later_bit word aisle before low high =
    let place : 65 - aisle + (aisle - 1 - before) ≡ 64 - before = omega arith in
    ap (λ (q : ℕ). q % 2) (shr-shr word (65 - aisle) (aisle - 1 - before)) ∙ ap (λ (i : ℕ). bit_at word i) place

-- an aisle without a bit isn't needed
not_needed : {layout : Layout} {points : List Point} {word : ℕ} → MarksNeeded layout points word → (aisle : ℕ) → IsUpTo 64 aisle
    → bit_at word (64 - aisle) ≡ 0 →
    is_needed layout points aisle ≡ false
not_needed marks aisle within off = sym (marks.bits aisle within) ∙ ne_eqb _ _ (λ on. omega (arith, off, on))

-- where no bit is left of an aisle's, none is needed before it
pub none_before : {layout : Layout} {points : List Point} {word : ℕ} → MarksNeeded layout points word → (aisle : ℕ) → aisle ≤ 65 → word / 2 ^ (65 - aisle) ≡ 0 →
    IsLastNeededBefore layout points aisle None
none_before {layout} {points} {word} marks aisle last none before low high =
    not_needed marks before (omega arith, omega arith)
    (sym (later_bit word aisle before last high) ∙ ap (λ (w : ℕ). bit_at w (aisle - 1 - before)) none ∙ bit_at-zero (aisle - 1 - before))

-- the lowest bit of the word from the one before an aisle's on is that of an aisle
pub lowest_within : (word aisle : ℕ) → word < 2 ^ 64 → aisle ≤ 65 → 0 < word / 2 ^ (65 - aisle) → trailing_zeros w64 (word / 2 ^ (65 - aisle)) + 1 < aisle
lowest_within word aisle fits last some =
    let rest = word / 2 ^ (65 - aisle) in
    let low = bit_at-trailing_zeros w64 rest some (omega (arith, fits, shr_le word (65 - aisle))) in
    let t = trailing_zeros w64 rest in
    let on = sym (ap (λ (q : ℕ). q % 2) (shr-shr word (65 - aisle) t)) ∙ low.1 in
    ⊎_elim (λ within. within) (λ past. let off = bit_at_above word 64 (65 - aisle + t) fits (omega arith) in absurd (omega (arith, on, off)))
    (cases_lt (t + 1) aisle)

-- and that is the last needed one before it
pub last_before : {layout : Layout} {points : List Point} {word : ℕ} → MarksNeeded layout points word → (aisle : ℕ) → word < 2 ^ 64 → aisle ≤ 65 →
    0 < word / 2 ^ (65 - aisle) → IsLastNeededBefore layout points aisle (Some (aisle - 1 - trailing_zeros w64 (word / 2 ^ (65 - aisle))))
last_before {layout} {points} {word} marks aisle fits last some =
    let rest = word / 2 ^ (65 - aisle) in
    let low = bit_at-trailing_zeros w64 rest some (omega (arith, fits, shr_le word (65 - aisle))) in
    let t = trailing_zeros w64 rest in
    let within = lowest_within word aisle fits last some in
    let found = aisle - 1 - t in
    let place : aisle - 1 - found ≡ t = omega (arith, within) in
    let on = sym (later_bit word aisle found last (omega (arith, within))) ∙ ap (λ (i : ℕ). bit_at rest i) place ∙ low.1 in (
      omega (arith, within),
      omega (arith, within),
      sym (marks.bits found (omega (arith, within), omega (arith, within))) ∙ eq-eqb _ _ on,
      λ between after before. not_needed marks between (omega arith, omega arith)
          (sym (later_bit word aisle between last before) ∙ low.2 (aisle - 1 - between) (omega (arith, within))),
    )
