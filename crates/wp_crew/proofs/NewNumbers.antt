-- New numbers for pickers, given by the place of their first length.
use Rattle.std.proofs.Common.{◌≡◌, ◌≢◌, ℕ, ◌+◌, ◌<◌, ◌≤◌, List, length, get_or, map, slice_index, arith, refl, ap, sym, ◌∙◌, subst, inl, inr}
use Rattle.std.proofs.lemmas.Bool.{cases_eq, cases_lt}
use Rattle.std.proofs.lemmas.List.{get_or-map, length-map}
use Rattle.std.proofs.lemmas.List.Edits.{length-swap, swapped_from_swap}
use Rattle.std.proofs.lemmas.List.Elements.{All-map, All-weaker, All-get_or}
use Rattle.std.proofs.lemmas.List.FromFn.{get_or-range_with_len, length-range_with_len}
use Rattle.std.specs.List.{range_with_len, swap}
use Rattle.wp_crew.specs.Crews.{AreNumberedByFirst, load}
use Rattle.wp_crew.specs.Numbers.{AreNumbers, IsRenumbered}
use Rattle.wp_crew.specs.Turns.{IsBalanced}
use Rattle.wp_crew.proofs.LoadSums.{load_renumbered}

-- at first each picker has its own number
pub own_numbers : (pickers : ℕ) → AreNumbers pickers (range_with_len 0 pickers) (range_with_len 0 pickers)
own_numbers pickers =
    let at = λ (k : ℕ) (low : k < pickers). get_or-range_with_len 0 pickers k 0 low in
    record {
      number_count = length-range_with_len 0 pickers;
      picker_count = length-range_with_len 0 pickers;
      number_below = λ k low. omega (arith, at k low);
      picker_below = λ k low. omega (arith, at k low);
      back = λ k low. let e : get_or (range_with_len 0 pickers) k 0 ≡ k = omega (arith, at k low) in
          ap (λ n. get_or (range_with_len 0 pickers) n 0) e ∙ e;
      there = λ k low. let e : get_or (range_with_len 0 pickers) k 0 ≡ k = omega (arith, at k low) in
          ap (λ n. get_or (range_with_len 0 pickers) n 0) e ∙ e;
    }

pub own_numbers_of : (pickers : ℕ) (number_of picker_with : List ℕ) → number_of ≡ range_with_len 0 pickers → picker_with ≡ range_with_len 0 pickers
    → AreNumbers (length number_of) number_of picker_with
own_numbers_of pickers number_of picker_with is with =
    let size : pickers ≡ length number_of = sym (ap length is ∙ length-range_with_len 0 pickers) in
    subst (λ n. AreNumbers n number_of picker_with) size
    (subst (λ (xs : List ℕ). AreNumbers pickers xs picker_with) (sym is)
    (subst (λ (ys : List ℕ). AreNumbers pickers (range_with_len 0 pickers) ys) (sym with) (own_numbers pickers)))

-- two pickers exchange their numbers
pub exchange_numbers : (pickers : ℕ) (number_of picker_with : List ℕ) (picker number other given : ℕ) → AreNumbers pickers number_of picker_with
    → picker < pickers → given < pickers → number ≡ get_or number_of picker 0 → other ≡ get_or picker_with given 0
    → AreNumbers pickers (swap number_of picker other) (swap picker_with given number)
exchange_numbers pickers number_of picker_with picker number other given are low less is_number is_other =
    let number_low : number < pickers = omega (arith, are.number_below picker low) in
    let other_low : other < pickers = omega (arith, are.picker_below given less) in
    let of_picker : get_or picker_with number 0 ≡ picker = ap (λ k. get_or picker_with k 0) is_number ∙ are.back picker low in
    let of_other : get_or number_of other 0 ≡ given = ap (λ k. get_or number_of k 0) is_other ∙ are.there given less in
    let new = swapped_from_swap number_of (swap number_of picker other) picker other 0 (omega (arith, are.number_count))
    (omega (arith, are.number_count)) refl in
    let with = swapped_from_swap picker_with (swap picker_with given number) given number 0 (omega (arith, are.picker_count))
    (omega (arith, are.picker_count)) refl in
    let at_picker : get_or (swap number_of picker other) picker 0 ≡ given = new.0 ∙ of_other in
    let at_other : get_or (swap number_of picker other) other 0 ≡ number = new.1 ∙ sym is_number in
    let at_given : get_or (swap picker_with given number) given 0 ≡ picker = with.0 ∙ of_picker in
    let at_number : get_or (swap picker_with given number) number 0 ≡ other = with.1 ∙ sym is_other in
    record {
      number_count = length-swap number_of picker other ∙ are.number_count;
      picker_count = length-swap picker_with given number ∙ are.picker_count;
      number_below = λ k below. elim (cases_eq k picker) [
        | inl e ↦ omega (arith, ap (λ n. get_or (swap number_of picker other) n 0) e, at_picker)
        | inr ne ↦ elim (cases_eq k other) [
          | inl e ↦ omega (arith, ap (λ n. get_or (swap number_of picker other) n 0) e, at_other)
          | inr ne' ↦ omega (arith, new.2 k ne ne', are.number_below k below)
        ]
      ];
      picker_below = λ k below. elim (cases_eq k given) [
        | inl e ↦ omega (arith, ap (λ n. get_or (swap picker_with given number) n 0) e, at_given)
        | inr ne ↦ elim (cases_eq k number) [
          | inl e ↦ omega (arith, ap (λ n. get_or (swap picker_with given number) n 0) e, at_number)
          | inr ne' ↦ omega (arith, with.2 k ne ne', are.picker_below k below)
        ]
      ];
      back = λ k below. elim (cases_eq k picker) [
        | inl e ↦ ap (λ n. get_or (swap picker_with given number) (get_or (swap number_of picker other) n 0) 0) e
            ∙ ap (λ n. get_or (swap picker_with given number) n 0) at_picker ∙ at_given ∙ sym e
        | inr ne ↦ elim (cases_eq k other) [
          | inl e ↦ ap (λ n. get_or (swap picker_with given number) (get_or (swap number_of picker other) n 0) 0) e
              ∙ ap (λ n. get_or (swap picker_with given number) n 0) at_other ∙ at_number ∙ sym e
          | inr ne' ↦
              let old = are.back k below in
              let y = get_or number_of k 0 in
              let off_given : y ≢ given = λ (e : y ≡ given). ne' (sym old ∙ ap (λ n. get_or picker_with n 0) e ∙ sym is_other) in
              let off_number : y ≢ number = λ (e : y ≡ number). ne (sym old ∙ ap (λ n. get_or picker_with n 0) e ∙ of_picker) in
              ap (λ n. get_or (swap picker_with given number) n 0) (new.2 k ne ne') ∙ with.2 y off_given off_number ∙ old
        ]
      ];
      there = λ k below. elim (cases_eq k given) [
        | inl e ↦ ap (λ n. get_or (swap number_of picker other) (get_or (swap picker_with given number) n 0) 0) e
            ∙ ap (λ n. get_or (swap number_of picker other) n 0) at_given ∙ at_picker ∙ sym e
        | inr ne ↦ elim (cases_eq k number) [
          | inl e ↦ ap (λ n. get_or (swap number_of picker other) (get_or (swap picker_with given number) n 0) 0) e
              ∙ ap (λ n. get_or (swap number_of picker other) n 0) at_number ∙ at_other ∙ sym e
          | inr ne' ↦
              let old = are.there k below in
              let x = get_or picker_with k 0 in
              let off_picker : x ≢ picker = λ (e : x ≡ picker). ne' (sym old ∙ ap (λ n. get_or number_of n 0) e ∙ sym is_number) in
              let off_other : x ≢ other = λ (e : x ≡ other). ne (sym old ∙ ap (λ n. get_or number_of n 0) e ∙ of_other) in
              ap (λ n. get_or (swap number_of picker other) n 0) (with.2 k ne ne') ∙ new.2 x off_picker off_other ∙ old
        ]
      ];
    }

-- so many numbers are given to the pickers of the first lengths, each before those above it
pub record AreGiven (pickers : ℕ) (picker_of number_of picker_with : List ℕ) (count given : ℕ) : Type 0 where
  pub most : given ≤ pickers
  pub numbers : AreNumbers pickers number_of picker_with
  pub seen : (place : ℕ) → place < count → get_or number_of (get_or picker_of place 0) 0 < given
  pub all : (number : ℕ) → number < given → (before : ℕ) × (before < count) × (get_or number_of (get_or picker_of before 0) 0 ≡ number)
  pub first : (place lower : ℕ) → place < count → lower < get_or number_of (get_or picker_of place 0) 0
      → (before : ℕ) × (before < place) × (get_or number_of (get_or picker_of before 0) 0 ≡ lower)

pub none_given : (pickers : ℕ) (picker_of number_of picker_with : List ℕ) → AreNumbers pickers number_of picker_with
    → AreGiven pickers picker_of number_of picker_with 0 0
none_given pickers picker_of number_of picker_with are = record {
  most = omega arith;
  numbers = are;
  seen = λ place low. absurd (omega arith);
  all = λ number low. absurd (omega arith);
  first = λ place lower low less. absurd (omega arith);
}

-- a length of a picker with a number
pub number_kept : (pickers : ℕ) (picker_of number_of picker_with : List ℕ) (count given picker : ℕ)
    → AreGiven pickers picker_of number_of picker_with count given → picker ≡ get_or picker_of count 0 → get_or number_of picker 0 < given
    → AreGiven pickers picker_of number_of picker_with (count + 1) given
number_kept pickers picker_of number_of picker_with count given picker are is known =
    let here = ap (λ k. get_or number_of k 0) is in
    record {
      most = are.most;
      numbers = are.numbers;
      seen = λ place low. elim (cases_lt place count) [
        | inl less ↦ are.seen place less
        | inr more ↦
            let e : place ≡ count = omega arith in
            omega (arith, here, ap (λ k. get_or number_of (get_or picker_of k 0) 0) e)
      ];
      all = λ number low. let old = are.all number low in (old.0, omega (arith, old.1), old.2);
      first = λ place lower low below. elim (cases_lt place count) [
        | inl less ↦ are.first place lower less below
        | inr more ↦
            let e : place ≡ count = omega arith in
            let old = are.all lower (omega (arith, below, here, ap (λ k. get_or number_of (get_or picker_of k 0) 0) e)) in
            (old.0, omega (arith, old.1), old.2)
      ];
    }

-- a length of a picker without one
pub number_given : (pickers : ℕ) (picker_of number_of picker_with : List ℕ) (count given picker number other : ℕ)
    → AreGiven pickers picker_of number_of picker_with count given → picker ≡ get_or picker_of count 0 → picker < pickers
    → number ≡ get_or number_of picker 0 → given ≤ number → other ≡ get_or picker_with given 0
    → AreGiven pickers picker_of (swap number_of picker other) (swap picker_with given number) (count + 1) (given + 1)
number_given pickers picker_of number_of picker_with count given picker number other are is low is_number new is_other =
    let numbers = are.numbers in
    let number_low : number < pickers = omega (arith, numbers.number_below picker low) in
    let other_low : other < pickers = omega (arith, numbers.picker_below given (omega arith)) in
    let of_other : get_or number_of other 0 ≡ given = ap (λ k. get_or number_of k 0) is_other ∙ numbers.there given (omega arith) in
    let now = swapped_from_swap number_of (swap number_of picker other) picker other 0 (omega (arith, numbers.number_count))
    (omega (arith, numbers.number_count)) refl in
    let here : get_or (swap number_of picker other) (get_or picker_of count 0) 0 ≡ given
    = ap (λ k. get_or (swap number_of picker other) k 0) (sym is) ∙ now.0 ∙ of_other in
    let kept = λ (place : ℕ) (less : place < count).
    let owner = get_or picker_of place 0 in
    let seen = are.seen place less in
    now.2 owner (λ (e : owner ≡ picker). absurd (omega (arith, seen, ap (λ k. get_or number_of k 0) e, is_number, new)))
    (λ (e : owner ≡ other). absurd (omega (arith, seen, ap (λ k. get_or number_of k 0) e, of_other))) in
    record {
      most = omega (arith, number_low, new);
      numbers = exchange_numbers pickers number_of picker_with picker number other given numbers low (omega arith) is_number is_other;
      seen = λ place before. elim (cases_lt place count) [
        | inl less ↦ omega (arith, kept place less, are.seen place less)
        | inr more ↦
            let e : place ≡ count = omega arith in
            omega (arith, here, ap (λ k. get_or (swap number_of picker other) (get_or picker_of k 0) 0) e)
      ];
      all = λ one below. elim (cases_lt one given) [
        | inl less ↦ let old = are.all one less in (old.0, omega (arith, old.1), kept old.0 old.1 ∙ old.2)
        | inr more ↦ (count, omega arith, omega (arith, here))
      ];
      first = λ place lower before below. elim (cases_lt place count) [
        | inl less ↦
            let old = are.first place lower less (omega (arith, below, kept place less)) in
            (old.0, old.1, kept old.0 (omega (arith, old.1, less)) ∙ old.2)
        | inr more ↦
            let e : place ≡ count = omega arith in
            let old = are.all lower (omega (arith, below, here, ap (λ k. get_or (swap number_of picker other) (get_or picker_of k 0) 0) e)) in
            (old.0, omega (arith, old.1), kept old.0 old.1 ∙ old.2)
      ];
    }

pub numbered_by_first : (pickers : ℕ) (picker_of number_of picker_with : List ℕ) (count given : ℕ)
    → AreGiven pickers picker_of number_of picker_with count given → length picker_of ≤ count
    → AreNumberedByFirst (map (slice_index number_of) picker_of)
numbered_by_first pickers picker_of number_of picker_with count given are all place lower within below =
    let size = length-map picker_of (slice_index number_of) in
    let low : place < length picker_of = omega (arith, within, size) in
    let at = λ (k : ℕ) (in_list : k < length picker_of). get_or-map (slice_index number_of) picker_of k 0 0 in_list in
    let old = are.first place lower (omega arith) (omega (arith, below, at place low)) in
    (old.0, old.1, at old.0 (omega (arith, old.1)) ∙ old.2)

-- a balanced assignment is that under other numbers too
pub still_balanced : (lengths : List ℕ) (pickers : ℕ) (before after : List ℕ) → IsBalanced lengths pickers before
    → IsRenumbered pickers before after → IsBalanced lengths pickers after
still_balanced lengths pickers before after is renumbered =
    let number_of = renumbered.0 in
    let picker_with = renumbered.1 in
    let are = renumbered.2 in
    let below = is.assigned.below in
    let apart = λ (picker : ℕ) (low : picker < pickers).
    All-weaker (λ (owner : ℕ). owner < pickers) (λ (owner : ℕ). get_or number_of owner 0 ≡ get_or number_of picker 0 → owner ≡ picker)
    (λ owner less same. sym (are.back owner less) ∙ ap (λ k. get_or picker_with k 0) same ∙ are.back picker low) before below in
    let same = λ (picker : ℕ) (low : picker < pickers). load_renumbered (slice_index number_of) lengths before picker (apart picker low) in
    let new = map (slice_index number_of) before in
    subst (λ (owners : List ℕ). IsBalanced lengths pickers owners) (sym renumbered.3) (record {
      assigned = record {
        each = length-map before (slice_index number_of) ∙ is.assigned.each;
        below = All-map (λ owner. owner < pickers) (slice_index number_of) before
            (All-weaker (λ (owner : ℕ). owner < pickers) (λ (owner : ℕ). get_or number_of owner 0 < pickers) (λ owner less. are.number_below owner less)
            before below);
      };
      balanced = λ place other within low.
          let in_list : place < length before = omega (arith, within, is.assigned.each) in
          let owner = get_or before place 0 in
          let own_low = All-get_or (λ (k : ℕ). k < pickers) before place 0 in_list below in
          let here = ap (load lengths new) (get_or-map (slice_index number_of) before place 0 0 in_list) ∙ same owner own_low in
          let there = ap (load lengths new) (sym (are.there other low)) ∙ same (get_or picker_with other 0) (are.picker_below other low) in
          omega (arith, here, there, is.balanced place (get_or picker_with other 0) within (are.picker_below other low));
    })

pub length_renumbered : (pickers : ℕ) (before after : List ℕ) → IsRenumbered pickers before after → length after ≡ length before
length_renumbered pickers before after is = ap length is.3 ∙ length-map before (slice_index is.0)
