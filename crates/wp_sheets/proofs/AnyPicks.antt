-- Each batch of a wave has picks.
use Rattle.std.proofs.Common.{◌≡◌, ◌∙◌, refl, sym, subst, ℕ, zero, suc, ◌<◌, ◌≤◌, ◌⊎◌, inl, inr, List, [], ◌∷◌, Contains, arith}
use Rattle.std.proofs.lemmas.Bool.{cases_lt, cases_order}
use Rattle.std.proofs.lemmas.List.Sorted.{Contains-permutation, IsPermutation-cons, IsPermutation-refl, IsPermutation-swap, IsPermutation-sym}
use Rattle.std.proofs.lemmas.List.Sorted.{IsPermutation-trans}
use Rattle.std.proofs.lemmas.Option.{get_or_from_slice_get, same_Some, slice_get_within}
use Rattle.std.specs.List.{filter}
use Rattle.std.specs.List.Sorted.{IsPermutation}
use Rattle.wp_model.specs.declared.row.Hold.{Hold}
use Rattle.wp_sheets.specs.Picks.{AreByRow, ComesNoLater, is_of}
use Rattle.wp_sheets.proofs.OnePicking.{Ascend, before_later, in_cases, none_in, rest_ascends}

-- of holds at one row and then of the same order what comes no later
later_at_row : (g h k : Hold) → (g.order < h.order) ⊎ ((g.order ≡ h.order) × (g.quantity ≤ h.quantity))
    → (h.order < k.order) ⊎ ((h.order ≡ k.order) × (h.quantity ≤ k.quantity)) → (g.order < k.order) ⊎ ((g.order ≡ k.order) × (g.quantity ≤ k.quantity))
later_at_row g h k one two = elim one [
  | inl less ↦ elim two [ inl more ↦ inl (omega arith) | inr tie ↦ inl (omega (arith, tie.0)) ]
  | inr same ↦ elim two [ inl more ↦ inl (omega (arith, same.0)) | inr tie ↦ inr (same.0 ∙ tie.0, omega (arith, same.1, tie.1)) ]
]

-- what comes no later than a hold comes no later than all that come no earlier than that
before_both : (g h k : Hold) → ComesNoLater g h → ComesNoLater h k → ComesNoLater g k
before_both g h k one two = elim one [
  | inl less ↦ elim two [ inl more ↦ inl (omega arith) | inr tie ↦ inl (omega (arith, tie.0)) ]
  | inr same ↦ elim two [ inl more ↦ inl (omega (arith, same.0)) | inr tie ↦ inr (same.0 ∙ tie.0, later_at_row g h k same.1 tie.1) ]
]

-- of two holds one comes no later
one_first : (g h : Hold) → ComesNoLater g h ⊎ ComesNoLater h g
one_first g h = elim (cases_order g.row h.row) [
  | inl row ↦ elim (cases_order g.order h.order) [
    | inl order ↦ elim (cases_lt g.quantity h.quantity) [
      | inl less ↦ inl (inr (row, inr (order, omega arith)))
      | inr more ↦ inr (inr (sym row, inr (sym order, more)))
    ]
    | inr other ↦ elim other [ inl less ↦ inl (inr (row, inl less)) | inr more ↦ inr (inr (sym row, inl more)) ]
  ]
  | inr other ↦ elim other [ inl less ↦ inl (inl less) | inr more ↦ inr (inl more) ]
]

-- a hold before all holds that ascend ascends with them
ascend_more : (h : Hold) (hs : List Hold) → ((g : Hold) → Contains hs g → ComesNoLater h g) → Ascend hs → Ascend (h ∷ hs)
ascend_more h hs first up zero zero g k before at there = absurd (omega arith)
ascend_more h hs first up (suc i) zero g k before at there = absurd (omega arith)
ascend_more h hs first up zero (suc j) g k before at there =
    subst (λ (x : Hold). ComesNoLater x k) (same_Some h g at) (first k (j, slice_get_within hs j k there, get_or_from_slice_get hs j k k there))
ascend_more h hs first up (suc i) (suc j) g k before at there = up i j g k (omega arith) at there

-- two holds in front of others are those in the other order
swapped : (h k : Hold) (ks : List Hold) → IsPermutation (h ∷ k ∷ ks) (k ∷ h ∷ ks)
swapped h k ks = IsPermutation-swap (h ∷ k ∷ ks) (k ∷ h ∷ ks) 0 1 (omega arith) (omega arith) refl

-- holds that ascend are some others
abbrev IsSorting : List Hold → List Hold → Type 0
IsSorting hs picks = IsPermutation hs picks × Ascend picks

-- a hold stands somewhere among holds that ascend
put : (h : Hold) (picks : List Hold) → Ascend picks → (new : List Hold) × IsSorting (h ∷ picks) new
put h [] up = (h ∷ [], (IsPermutation-refl (h ∷ []), ascend_more h [] (λ g has. absurd (none_in g has)) up))
put h (k ∷ ks) up = elim (one_first h k) [
  | inl before ↦ (
    h ∷ k ∷ ks,
    (
      IsPermutation-refl (h ∷ k ∷ ks),
      ascend_more h (k ∷ ks) (λ g has. elim (in_cases k ks g has) [
        | inl same ↦ subst (ComesNoLater h) same before
        | inr later ↦ before_both h k g before (before_later k ks g up later)
      ]) up,
    ),
  )
  | inr after ↦
      let rest = put h ks (rest_ascends k ks up) in (
        k ∷ rest.0,
        (
          IsPermutation-trans (h ∷ k ∷ ks) (k ∷ h ∷ ks) (k ∷ rest.0) (swapped h k ks) (IsPermutation-cons k (h ∷ ks) rest.0 rest.1.0),
          ascend_more k rest.0 (λ g has. elim (in_cases h ks g (Contains-permutation rest.0 (h ∷ ks) g (IsPermutation-sym (h ∷ ks) rest.0 rest.1.0) has)) [
            | inl same ↦ subst (ComesNoLater k) same after
            | inr later ↦ before_later k ks g up later
          ]) rest.1.1,
        ),
      )
]

any_sorting : (hs : List Hold) → (picks : List Hold) × IsSorting hs picks
any_sorting [] = ([], (IsPermutation-refl [], λ i j g k before at there. absurd (cc at)))
any_sorting (h ∷ hs) =
    let rest = any_sorting hs in
    let new = put h rest.0 rest.1.1 in
    (new.0, (IsPermutation-trans (h ∷ hs) (h ∷ rest.0) new.0 (IsPermutation-cons h hs rest.0 rest.1.0) new.1.0, new.1.1))

-- each batch has picks
pub any_picks : (holds : List Hold) (batch : List ℕ) → (picks : List Hold) × AreByRow holds batch picks
any_picks holds batch =
    let sorting = any_sorting (filter (is_of batch) holds) in
    (sorting.0, record { just = sorting.1.0; ascend = sorting.1.1 })
