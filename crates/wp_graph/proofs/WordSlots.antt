-- Whether points lie in an aisle, by the words of its slots.
use Rattle.std.proofs.Common.{◌≡◌, ◌≢◌, ℕ, ◌+◌, ◌-◌, ◌*◌, ◌<◌, ◌==◌, ◌^◌, false, List, arith, refl, sym, ◌∙◌, ap, ⊎_elim}
use Rattle.std.specs.Int.{bit_at, w64}
use Rattle.std.proofs.lemmas.Bool.{cases_lt, eq-eqb, false≢true}
use Rattle.std.proofs.lemmas.Nat.Bits.{bit_at-trailing_zeros}
use Rattle.wp_model.specs.declared.point.Point.{Point}
use Rattle.wp_model.specs.Warehouse.{Layout}
use Rattle.wp_graph.specs.PickSets.{AreSlots, HaveSlotIn}
use Rattle.wp_graph.specs.Required.{has_point}
use Rattle.wp_graph.proofs.Members.{Contains-from_among, among_from_Contains}
use Rattle.wp_graph.proofs.PointTests.{among_has, has_among}

-- a word with a bit tells a point in the aisle
pub some_in_word : (points : List Point) (aisle index word : ℕ) → word < 2 ^ 64 → word ≢ 0 →
    ((k : ℕ) → k < 64 → (bit_at word k == 1) ≡ has_point points aisle (64 * index + k)) → HaveSlotIn points aisle
some_in_word points aisle index word small some tells =
    let low = bit_at-trailing_zeros w64 word (omega (arith, some)) small in
    let has = sym (tells _ low.0) ∙ eq-eqb _ _ low.1 in
    (_, Contains-from_among points _ (has_among points aisle _ has), refl)

no_bit : (k : ℕ) → bit_at 0 k ≡ 0
no_bit k = omega arith

-- a word without a bit tells none at its places
pub none_more : (points : List Point) (aisle index word : ℕ) → word ≡ 0 →
    ((k : ℕ) → k < 64 → (bit_at word k == 1) ≡ has_point points aisle (64 * index + k)) →
    ((place : ℕ) → place < 64 * index → has_point points aisle place ≡ false) → (place : ℕ) → place < 64 * (index + 1) → has_point points aisle place ≡ false
none_more points aisle index word none tells before place low = ⊎_elim (λ near. before place near)
    (λ far.
    let at : 64 * index + (place - 64 * index) ≡ place = omega (arith, far) in
    ap (has_point points aisle) (sym at) ∙ sym (tells (place - 64 * index) (omega (arith, low, far)))
    ∙ ap (λ w. bit_at w (place - 64 * index) == 1) none ∙ ap (λ b. b == 1) (no_bit (place - 64 * index)))
    (cases_lt place (64 * index))

-- without a bit in all words no point lies in the aisle
pub none_in_words : (layout : Layout) (points : List Point) (aisle n : ℕ) → AreSlots layout points → layout.slots < n →
    ((place : ℕ) → place < n → has_point points aisle place ≡ false) → HaveSlotIn points aisle → ⊥
none_in_words layout points aisle n are within none (p, has, at) =
    let slot = (are.slots p has).slot in
    let there = among_has points p (among_from_Contains points p has) in
    false≢true (sym (none p.slot (omega (arith, slot, within))) ∙ ap (λ a. has_point points a p.slot) (sym at) ∙ there)
