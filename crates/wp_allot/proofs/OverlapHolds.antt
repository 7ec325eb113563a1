-- What was dealt, put in order.
use Rattle.std.proofs.Common.{◌≡◌, ◌≢◌, ◌∙◌, refl, sym, ap, subst, ℕ, suc, ◌<◌, ◌≤◌, ◌⊎◌, inl, inr, List, [], ◌∷◌, ◌++◌, length}
use Rattle.std.proofs.Common.{Option, Some, slice_get, if◌then◌else◌, arith, eq-eqb}
use Rattle.std.proofs.lemmas.Bool.{and_from, cases_Bool, cases_eq, cond-false, cond-true, le-ltb, ltb-false}
use Rattle.std.proofs.lemmas.List.{take_all}
use Rattle.std.proofs.lemmas.List.Sorted.{All-permutation, length_permutation, sum_by-IsPermutation}
use Rattle.std.proofs.lemmas.List.Sums.{get_or-le-sum_by, sum_by-cons}
use Rattle.std.proofs.lemmas.Option.{get_or_from_slice_get, slice_get_cases, slice_get_within}
use Rattle.std.specs.List.{count_by}
use Rattle.std.specs.List.Sorted.{IsPermutation}
use Rattle.std.specs.Option.{option_map_or}
use Rattle.wp_model.proofs.Elements.{All-at}
use Rattle.wp_model.proofs.HeldList.{Each-from_at, is_held_list}
use Rattle.wp_model.specs.HoldLists.{IsBefore, IsSome, Rises}
use Rattle.wp_model.proofs.Overlap.{overlap-le-demand}
use Rattle.wp_model.proofs.Share.{share-at}
use Rattle.wp_model.specs.Book.{hold_for, units_for}
use Rattle.wp_model.specs.Change.{share}
use Rattle.wp_model.specs.Demand.{offer_at}
use Rattle.wp_model.specs.Overlap.{overlap}
use Rattle.wp_model.specs.declared.row.Hold.{Hold}
use Rattle.wp_model.specs.declared.row.Row.{Row}
use Rattle.wp_book.specs.Room.{AreInOrder, ComesFirst, Content, IsInOrder}
use Rattle.wp_allot.proofs.FilledRoom.{few_dealt, share_at, share_past}
use Rattle.wp_allot.proofs.SingleHolds.{counts}
use Rattle.wp_allot.proofs.WantSums.{wanted_for-le}
use Rattle.wp_allot.specs.DealtUnits.{AreDealtUnits, AreSingle, is_hold, share_among}
use Rattle.wp_allot.specs.Wants.{HasOverlaps, IsRoomFor, WantsBelow, is_wanted, wanted_for, wanted_of}
use Rattle.wp_allot.specs.declared.want.Want.{Want}

-- a hold counts as one for its own order at its own row
counts-own : (hold : Hold) → counts hold.order hold.row hold ≡ 1
counts-own hold = cond-true {A = ℕ} (is_hold hold.order hold.row hold) 1 0 (and_from _ _ (eq-eqb hold.order hold.order refl) (eq-eqb hold.row hold.row refl))

twice : (h g : Hold) (hs : List Hold) (k : ℕ) → slice_get hs k ≡ Some g → g.order ≡ h.order → g.row ≡ h.row → 2 ≤ count_by (is_hold h.order h.row) (h ∷ hs)
twice h g hs k there o r =
    let same : counts h.order h.row g ≡ 1 = cond-true {A = ℕ} (is_hold h.order h.row g) 1 0 (and_from _ _ (eq-eqb g.order h.order o) (eq-eqb g.row h.row r)) in
    let within = get_or-le-sum_by (counts h.order h.row) hs k g (slice_get_within hs k g there) in
    omega (arith, sum_by-cons (counts h.order h.row) h hs, counts-own h, same, within, ap (counts h.order h.row) (get_or_from_slice_get hs k g g there))

is_before : (h g : Hold) → ComesFirst h g → (g.order ≡ h.order → g.row ≡ h.row → ⊥) → IsBefore h g
is_before h g first never = elim (cases_eq h.order g.order) [
  | inl tie ↦ inr (tie, not_tie (first.row tie) (λ r. never (sym tie) (sym r)))
  | inr other ↦ inl (not_tie first.order other)
]
  where
    not_tie : {a b : ℕ} → a ≤ b → a ≢ b → a < b
    not_tie le ne = omega arith

-- holds in order rise where no two of them are for one order at one row
pub rises_from : (holds : List Hold) → AreInOrder holds → ((order row : ℕ) → count_by (is_hold order row) holds ≤ 1) → Rises holds
rises_from [] order once = tt
rises_from (h ∷ hs) order once = (
  Each-from_at (IsBefore h) hs (λ k g there. is_before h g (order 0 (suc k) h g (omega arith) refl there)
      (λ o r. absurd (omega (arith, twice h g hs k there o r, once h.order h.row)))),
  rises_from hs (λ i j f g upto at there. order (suc i) (suc j) f g (omega arith) at there) (λ o r. omega (arith, once o r, sum_by-cons (counts o r) h hs)),
)

single_permuted : (rows : List Row) (old new : List Hold) → IsPermutation old new → AreSingle rows old → AreSingle rows new
single_permuted rows old new same is = record {
  some = All-permutation (λ (h : Hold). 0 < h.quantity) old new same is.some;
  within = All-permutation (λ (h : Hold). h.row < length rows) old new same is.within;
  once = λ order row. omega (arith, sum_by-IsPermutation (counts order row) old new same, is.once order row);
}

-- what was dealt to all is what the orders take by overlap
share_all : (rows : List Row) (wants : List Want) (except : Option ℕ) (count order k : ℕ) → length wants ≤ count
    → share_among rows wants except count order k ≡ share (wanted_for wants) rows except order k
share_all rows wants except count order k all = elim (slice_get_cases rows k).1 [
  | inl found ↦
      let r = found.0 in
      let mine = overlap (wanted_for wants r.article) (offer_at rows r.article except) order k in
      share_at rows wants except count order k r found.2
      ∙ (ap (λ (xs : List Want). if is_wanted xs r.article then mine else 0) (take_all count wants all)
      ∙ (elim (cases_Bool (is_wanted wants r.article)) [
        | inl wanted ↦ cond-true (is_wanted wants r.article) mine 0 wanted
        | inr unwanted ↦
            let none = ltb-false 0 (wanted_of wants r.article) unwanted in
            cond-false (is_wanted wants r.article) mine 0 unwanted
            ∙ zero_within (wanted_for-le wants r.article order) none
            (overlap-le-demand (wanted_for wants r.article) (offer_at rows r.article except) order k)
      ] ∙ sym (share-at (wanted_for wants) rows except order k r found.2)))
  | inr past ↦
      share_past rows wants except count order k past.1
      ∙ sym (ap (λ found. option_map_or (λ (r : Row). overlap (wanted_for wants r.article) (offer_at rows r.article except) order k) found 0) past.1)
]
  where
    zero_within : {a b c : ℕ} → a ≤ b → b ≤ 0 → c ≤ a → 0 ≡ c
    zero_within p q r = omega arith

-- nothing is taken for orders that want nothing, and at no place that is no row
pub share_beyond : (rows : List Row) (wants : List Want) (except : Option ℕ) (orders order k : ℕ) → WantsBelow wants orders → (orders ≤ order)
    ⊎ (length rows ≤ k) → share (wanted_for wants) rows except order k ≡ 0
share_beyond rows wants except orders order k below beyond = elim (slice_get_cases rows k).1 [
  | inl found ↦
      let r = found.0 in
      elim beyond [
        | inl past ↦ share-at (wanted_for wants) rows except order k r found.2
            ∙ le_zero (overlap-le-demand (wanted_for wants r.article) (offer_at rows r.article except) order k) (below r.article order past)
        | inr past ↦ absurd (omega (arith, slice_get_within rows k r found.2))
      ]
  | inr past ↦ ap (λ found. option_map_or (λ (r : Row). overlap (wanted_for wants r.article) (offer_at rows r.article except) order k) found 0) past.1
]
  where
    le_zero : {a b : ℕ} → a ≤ b → b ≡ 0 → a ≡ 0
    le_zero p q = omega arith

-- nothing was dealt at first
pub nothing_dealt : (rows : List Row) (wants : List Want) (except : Option ℕ) (room : Content) → IsRoomFor rows wants room
    → AreDealtUnits rows wants except 0 room
nothing_dealt rows wants except room is = record {
  single = subst (AreSingle rows) (sym is.empty) (record {
    some = λ k d within. absurd (omega arith);
    within = λ k d within. absurd (omega arith);
    once = λ order row. omega arith;
  });
  size = is.size;
  space = omega (arith, ap length is.empty);
  few = omega (arith, ap length is.empty);
  units = λ order row. ap (λ holds. units_for holds order row) is.empty ∙ sym (none order row);
}
  where
    none : (order k : ℕ) → share_among rows wants except 0 order k ≡ 0
    none order k = elim (slice_get_cases rows k).1 [
      | inl found ↦ share_at rows wants except 0 order k found.0 found.2
          ∙ cond-false (is_wanted [] found.0.article) (overlap (wanted_for wants found.0.article) (offer_at rows found.0.article except) order k) 0
          (le-ltb 0 0 (omega arith))
      | inr past ↦ share_past rows wants except 0 order k past.1
    ]

-- all that was dealt, in order, is what the orders take by overlap
pub has_overlaps : (rows : List Row) (wants : List Want) (except : Option ℕ) (count : ℕ) (room room' room'' : Content) → length wants ≤ count
    → room'.size ≡ room.size → AreDealtUnits rows wants except count room' → IsInOrder room' room''
    → HasOverlaps rows wants except room room''
has_overlaps rows wants except count room room' room'' all size is sorted = record {
  size = sorted.size ∙ size;
  few = omega (arith, length_permutation room'.holds room''.holds sorted.same, few_dealt rows wants except count room' is);
  holds = λ orders below.
      let single = single_permuted rows room'.holds room''.holds sorted.same is.single in
      is_held_list room''.holds orders (length rows) (share (wanted_for wants) rows except) (rises_from room''.holds sorted.order single.once)
      (Each-from_at IsSome room''.holds (λ k h there. All-at (λ (h : Hold). 0 < h.quantity) room''.holds k h single.some there))
      (λ order row. sum_by-IsPermutation (hold_for order row) room'.holds room''.holds sorted.same
      ∙ (is.units order row ∙ share_all rows wants except count order row all))
      (λ order row beyond. share_beyond rows wants except orders order row below beyond);
}

-- the same holds put into other empty room
pub listed : (rows : List Row) (wants : List Want) (except : Option ℕ) (room room' list list' : Content) → HasOverlaps rows wants except room room'
    → IsRoomFor rows wants list → list' ≡ record list { holds = list.holds ++ room'.holds } → HasOverlaps rows wants except list list'
listed rows wants except room room' list list' has empty put =
    let same : list'.holds ≡ room'.holds = ap (λ (l : Content). l.holds) put ∙ ap (λ (holds : List Hold). holds ++ room'.holds) empty.empty in
    record {
      size = ap (λ (l : Content). l.size) put;
      few = omega (arith, ap length same, has.few);
      holds = λ orders below. same ∙ has.holds orders below;
    }
