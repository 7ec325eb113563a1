-- Turns for the lengths of a list stay that in another order.
use Rattle.std.proofs.Common.{◌≡◌, ◌≢◌, ℕ, ◌+◌, ◌-◌, ◌<◌, List, [], ◌∷◌, ◌++◌, length, get_or, reverse, arith, refl, ap, sym, ◌∙◌, subst, inl, inr}
use Rattle.std.proofs.lemmas.Bool.{cases_eq, cases_lt}
use Rattle.std.proofs.lemmas.List.{get_or-reverse, get_or_append_left, get_or_push, length-reverse, length_push}
use Rattle.std.proofs.lemmas.List.Edits.{swapped_from_swap, length-swap}
use Rattle.std.proofs.lemmas.List.Sorted.{IsPermutation-keeps}
use Rattle.std.specs.List.{swap}
use Rattle.std.specs.List.Sorted.{IsPermutation, IsNonDecreasingBy}
use Rattle.wp_crew.specs.Turns.{AreFalling, AreTurns, length_at, no_turn, place_at}
use Rattle.wp_crew.specs.declared.turns.PlacedLength.{PlacedLength}

-- a turn for each of the first lengths of a list, in its order
pub record AreInOrder (lengths : List ℕ) (turns : List PlacedLength) (count : ℕ) : Type 0 where
  pub size : length turns ≡ count
  pub places : (at : ℕ) → at < count → place_at turns at ≡ at
  pub right : (at : ℕ) → at < count → length_at turns at ≡ get_or lengths at 0

pub none_in_order : (lengths : List ℕ) (turns : List PlacedLength) → turns ≡ [] → AreInOrder lengths turns 0
none_in_order lengths turns e = record {
  size = ap length e;
  places = λ at low. absurd (omega arith);
  right = λ at low. absurd (omega arith);
}

pub more_in_order : (lengths : List ℕ) (turns : List PlacedLength) (at : ℕ) (turn : PlacedLength) → AreInOrder lengths turns at → turn.place ≡ at
    → turn.length ≡ get_or lengths at 0 → AreInOrder lengths (turns ++ turn ∷ []) (at + 1)
more_in_order lengths turns count turn before place is =
    let old = λ (at : ℕ) (low : at < count). get_or_append_left turns (turn ∷ []) no_turn at (omega (arith, before.size)) in
    let new = get_or_push turns turn no_turn count before.size in
    record {
      size = omega (arith, length_push turns turn, before.size);
      places = λ at low. elim (cases_lt at count) [
        | inl less ↦ ap (λ (t : PlacedLength). t.place) (old at less) ∙ before.places at less
        | inr more ↦
            let e : at ≡ count = omega arith in
            ap (λ k. place_at (turns ++ turn ∷ []) k) e ∙ ap (λ (t : PlacedLength). t.place) new ∙ place ∙ sym e
      ];
      right = λ at low. elim (cases_lt at count) [
        | inl less ↦ ap (λ (t : PlacedLength). t.length) (old at less) ∙ before.right at less
        | inr more ↦
            let e : at ≡ count = omega arith in
            ap (λ k. length_at (turns ++ turn ∷ []) k) e ∙ ap (λ (t : PlacedLength). t.length) new ∙ is ∙ ap (λ k. get_or lengths k 0) (sym e)
      ];
    }

pub turns_in_order : (lengths : List ℕ) (turns : List PlacedLength) (count : ℕ) → AreInOrder lengths turns count → count ≡ length lengths
    → AreTurns lengths turns
turns_in_order lengths turns count is all = record {
  count = is.size ∙ all;
  within = λ at low. omega (arith, is.places at (omega (arith, is.size)), is.size, all);
  right = λ at low.
      let low' : at < count = omega (arith, is.size) in
      is.right at low' ∙ ap (λ k. get_or lengths k 0) (sym (is.places at low'));
  apart = λ at other low less same.
      omega (arith, same, is.places at (omega (arith, is.size)), is.places other (omega (arith, is.size)));
  every = λ place low. (place, omega (arith, is.size, all), is.places place (omega (arith, all)));
}

-- where the element at a place stood before two were exchanged
other_place : (i j at : ℕ) → (k : ℕ) × ((at ≡ i → k ≡ j) × (at ≡ j → k ≡ i) × (at ≢ i → at ≢ j → k ≡ at))
other_place i j at = elim (cases_eq at i) [
  | inl e ↦ (j, (λ _. refl, λ e'. omega arith, λ ne. absurd (ne e)))
  | inr ne ↦ elim (cases_eq at j) [
    | inl e ↦ (i, (λ e'. absurd (ne e'), λ _. refl, λ _ ne'. absurd (ne' e)))
    | inr ne' ↦ (at, (λ e. absurd (ne e), λ e. absurd (ne' e), λ _ _. refl))
  ]
]

exchanged : (turns : List PlacedLength) (i j : ℕ) → i < length turns → j < length turns → (at : ℕ)
    → get_or (swap turns i j) at no_turn ≡ get_or turns (other_place i j at).0 no_turn
exchanged turns i j low high at =
    let is = swapped_from_swap turns (swap turns i j) i j no_turn low high refl in
    let k = (other_place i j at).0 in
    let how = (other_place i j at).1 in
    elim (cases_eq at i) [
      | inl e ↦ ap (λ n. get_or (swap turns i j) n no_turn) e ∙ is.0 ∙ ap (λ n. get_or turns n no_turn) (sym (how.0 e))
      | inr ne ↦ elim (cases_eq at j) [
        | inl e ↦ ap (λ n. get_or (swap turns i j) n no_turn) e ∙ is.1 ∙ ap (λ n. get_or turns n no_turn) (sym (how.1 e))
        | inr ne' ↦ is.2 at ne ne' ∙ ap (λ n. get_or turns n no_turn) (sym (how.2 ne ne'))
      ]
    ]

within_other : (i j at n : ℕ) → i < n → j < n → at < n → (other_place i j at).0 < n
within_other i j at n low high less =
    let how = (other_place i j at).1 in
    elim (cases_eq at i) [
      | inl e ↦ omega (arith, how.0 e)
      | inr ne ↦ elim (cases_eq at j) [ inl e ↦ omega (arith, how.1 e) | inr ne' ↦ omega (arith, how.2 ne ne') ]
    ]

back_again : (i j at : ℕ) → (other_place i j (other_place i j at).0).0 ≡ at
back_again i j at =
    let how = (other_place i j at).1 in
    let k = (other_place i j at).0 in
    let again = (other_place i j k).1 in
    elim (cases_eq at i) [
      | inl e ↦ again.1 (how.0 e) ∙ sym e
      | inr ne ↦ elim (cases_eq at j) [
        | inl e ↦ again.0 (how.1 e) ∙ sym e
        | inr ne' ↦
            let same = how.2 ne ne' in
            again.2 (λ e. ne (sym same ∙ e)) (λ e. ne' (sym same ∙ e)) ∙ same
      ]
    ]

one_exchange : (lengths : List ℕ) (turns : List PlacedLength) (i j : ℕ) → i < length turns → j < length turns → AreTurns lengths turns
    → AreTurns lengths (swap turns i j)
one_exchange lengths turns i j low high is =
    let size = length-swap turns i j in
    let at = λ (k : ℕ). exchanged turns i j low high k in
    let in_list = λ (k : ℕ) (less : k < length (swap turns i j)). within_other i j k (length turns) low high (omega (arith, less, size)) in
    record {
      count = size ∙ is.count;
      within = λ k less. subst (λ (t : PlacedLength). t.place < length lengths) (sym (at k)) (is.within _ (in_list k less));
      right = λ k less. subst (λ (t : PlacedLength). t.length ≡ get_or lengths t.place 0) (sym (at k)) (is.right _ (in_list k less));
      apart = λ k m less less' same.
          let e = is.apart _ _ (in_list k less) (in_list m less')
          (ap (λ (t : PlacedLength). t.place) (sym (at k)) ∙ same ∙ ap (λ (t : PlacedLength). t.place) (at m)) in
          sym (back_again i j k) ∙ ap (λ n. (other_place i j n).0) e ∙ back_again i j m;
      every = λ place less.
          let there = is.every place less in
          let k = (other_place i j there.0).0 in (
            k,
            omega (arith, size, within_other i j there.0 (length turns) low high there.1),
            ap (λ (t : PlacedLength). t.place) (at k) ∙ ap (λ n. place_at turns n) (back_again i j there.0) ∙ there.2,
          );
    }

pub turns_in_another_order : (lengths : List ℕ) (before after : List PlacedLength) → IsPermutation before after → AreTurns lengths before
    → AreTurns lengths after
turns_in_another_order lengths before after moved is =
    IsPermutation-keeps before (λ turns. AreTurns lengths turns) is (λ turns i j low high now. one_exchange lengths turns i j low high now) after moved

-- turns that were sorted by their lengths fall from the other end
pub falling_from_end : (turns : List PlacedLength) → IsNonDecreasingBy (λ (t : PlacedLength). t.length) turns → AreFalling (reverse turns)
falling_from_end turns rising at other before within =
    let size = length-reverse turns in
    let low : other < length turns = omega (arith, within, size) in
    let first = get_or-reverse turns at no_turn (omega arith) in
    let then = get_or-reverse turns other no_turn low in
    let order = rising (length turns - 1 - other) (length turns - 1 - at) no_turn (omega arith) (omega arith) in
    omega (arith, order, ap (λ (t : PlacedLength). t.length) first, ap (λ (t : PlacedLength). t.length) then)
