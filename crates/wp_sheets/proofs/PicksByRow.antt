-- The picks of a batch by row: they are its orders' holds, and sorting them lists them as its sheet does.
use Rattle.std.proofs.Common.{◌≡◌, ◌∙◌, sym, ap, subst, ℕ, zero, suc, ◌+◌, ◌-◌, ◌<◌, ◌≤◌, inl, inr, List, [], ◌∷◌, ◌++◌, true, false, Contains}
use Rattle.std.proofs.Common.{Some, slice_get, get_or, length, cond, arith, eqb-true, eq-eqb, All}
use Rattle.std.proofs.lemmas.Bool.{cases_Bool, cases_lt}
use Rattle.std.proofs.lemmas.Bool.Decides.{nat_tests}
use Rattle.std.proofs.lemmas.List.{append-nil}
use Rattle.std.proofs.lemmas.List.Elements.{All-contains, All-filter, All-weaker, filter-append, filter_passes}
use Rattle.std.proofs.lemmas.List.Folds.{list_any_at}
use Rattle.std.proofs.lemmas.List.Sorted.{All-permutation}
use Rattle.std.proofs.lemmas.Map.Views.{Contains-from_any}
use Rattle.std.proofs.lemmas.Option.{get_or_from_slice_get, slice_get_within}
use Rattle.std.specs.List.{filter}
use Rattle.std.specs.List.Sorted.{IsPermutation, IsSortedBy}
use Rattle.std.specs.Ordering.{is_lt, nat_cmp, ordering_then}
use Rattle.wp_model.specs.declared.row.Hold.{Hold}
use Rattle.wp_sheets.specs.Picks.{AreByRow, ComesNoLater, is_of}

-- a hold that is for an order of a batch is for an order that the batch has
in_batch : (batch : List ℕ) (h : Hold) → is_of batch h ≡ true → Contains batch h.order
in_batch batch h is = Contains-from_any (λ x y same. eqb-true x y same) h.order batch is

-- and the other way round
of_batch : (batch : List ℕ) (h : Hold) → Contains batch h.order → is_of batch h ≡ true
of_batch batch h has = list_any_at _ batch has.0 h.order has.1 (eq-eqb h.order (get_or batch has.0 h.order) (sym has.2))

not_of_batch : (batch : List ℕ) (h : Hold) → (Contains batch h.order → ⊥) → is_of batch h ≡ false
not_of_batch batch h none = elim (cases_Bool (is_of batch h)) [ inl is ↦ absurd (none (in_batch batch h is)) | inr not ↦ not ]

-- one more hold that is for an order of the batch is one more of its holds
pub one_more_held : (holds : List Hold) (batch : List ℕ) (picks : List Hold) (h : Hold) → Contains batch h.order → picks ≡ filter (is_of batch) holds
    → picks ++ h ∷ [] ≡ filter (is_of batch) (holds ++ h ∷ [])
one_more_held holds batch picks h has are =
    ap (λ (hs : List Hold). hs ++ h ∷ []) are
    ∙ (ap (λ b. filter (is_of batch) holds ++ cond b (h ∷ []) []) (sym (of_batch batch h has)) ∙ sym (filter-append (is_of batch) holds (h ∷ [])))

-- one that is for another order isn't
pub none_more_held : (holds : List Hold) (batch : List ℕ) (picks : List Hold) (h : Hold) → (Contains batch h.order → ⊥) → picks ≡ filter (is_of batch) holds
    → picks ≡ filter (is_of batch) (holds ++ h ∷ [])
none_more_held holds batch picks h none are =
    are ∙ (sym (append-nil (filter (is_of batch) holds))
    ∙ (ap (λ b. filter (is_of batch) holds ++ cond b (h ∷ []) []) (sym (not_of_batch batch h none)) ∙ sym (filter-append (is_of batch) holds (h ∷ []))))

-- what holds of all holds of a wave holds of a batch's picks
pub all_picks : (P : Hold → Type 0) (holds : List Hold) (batch : List ℕ) (picks : List Hold) → AreByRow holds batch picks → All P holds → All P picks
all_picks P holds batch picks are all = All-permutation P _ picks are.just (All-filter (is_of batch) P holds all)

-- what holds of all orders of a batch holds of the orders of its picks
pub all_orders : (P : ℕ → Type 0) (holds : List Hold) (batch : List ℕ) (picks : List Hold) → AreByRow holds batch picks → All P batch
    → All (λ (pick : Hold). P pick.order) picks
all_orders P holds batch picks are all = All-permutation (λ (pick : Hold). P pick.order) _ picks are.just
    (All-weaker (λ (h : Hold). is_of batch h ≡ true) (λ (pick : Hold). P pick.order) (λ h is. All-contains P batch h.order all (in_batch batch h is))
    (filter (is_of batch) holds) (filter_passes (is_of batch) holds))

-- a list is sorted by row, order and units
abbrev pub IsSortedByPlace : List Hold → Type 0
IsSortedByPlace picks = IsSortedBy
    (λ (x y : Hold). is_lt (ordering_then (ordering_then (nat_cmp x.row y.row) (nat_cmp x.order y.order)) (nat_cmp x.quantity y.quantity))) picks

-- a hold comes no later than another, by each part
record IsNoLater (g h : Hold) : Type 0 where
  row : g.row ≤ h.row
  order : g.row ≡ h.row → g.order ≤ h.order
  units : g.row ≡ h.row → g.order ≡ h.order → g.quantity ≤ h.quantity

not_before : (g h : Hold)
    → is_lt (ordering_then (ordering_then (nat_cmp h.row g.row) (nat_cmp h.order g.order)) (nat_cmp h.quantity g.quantity)) ≡ false → IsNoLater g h
not_before g h e = record {
  row = grind (arith, nat_tests);
  order = λ row. grind (arith, nat_tests);
  units = λ row order. grind (arith, nat_tests);
}

chained : (g h k : Hold) → IsNoLater g h → IsNoLater h k → IsNoLater g k
chained g h k one two = record {
  row = omega (arith, one.row, two.row);
  order = λ row. omega (arith, one.order (omega (arith, one.row, two.row)), two.order (omega (arith, one.row, two.row)));
  units = λ row order.
      let first : g.row ≡ h.row = omega (arith, one.row, two.row) in
      let second : h.row ≡ k.row = omega (arith, one.row, two.row) in
      let same : g.order ≡ h.order = omega (arith, one.order first, two.order second) in
      let other : h.order ≡ k.order = omega (arith, one.order first, two.order second) in
      omega (arith, one.units first same, two.units second other);
}

far : (picks : List Hold) → IsSortedByPlace picks → (i n : ℕ) (d : Hold) → i + n < length picks → IsNoLater (get_or picks i d) (get_or picks (i + n) d)
far picks sorted i zero d within = subst (λ k. IsNoLater (get_or picks i d) (get_or picks k d)) {x = i} {y = i + 0} (omega arith)
    (record { row = omega arith; order = λ row. omega arith; units = λ row order. omega arith })
far picks sorted i (suc n) d within =
    let next = not_before (get_or picks (i + n) d) (get_or picks (i + n + 1) d) (sorted (i + n) d (omega arith) (omega arith)) in
    subst (λ k. IsNoLater (get_or picks i d) (get_or picks k d)) {x = i + n + 1} {y = i + suc n} (omega arith)
    (chained _ _ _ (far picks sorted i n d (omega arith)) next)

-- of two of such a list the one that stands first comes no later
by_parts : (g h : Hold) → IsNoLater g h → ComesNoLater g h
by_parts g h is = elim (cases_lt g.row h.row) [
  | inl less ↦ inl less
  | inr row ↦ elim (cases_lt g.order h.order) [
    | inl less ↦ inr (omega (arith, is.row), inl less)
    | inr order ↦
        let tie : g.row ≡ h.row = omega (arith, is.row) in
        let same : g.order ≡ h.order = omega (arith, is.order tie) in
        inr (tie, inr (same, is.units tie same))
  ]
]

ascends : (picks : List Hold) → IsSortedByPlace picks → (i j : ℕ) (g h : Hold) → i < j → slice_get picks i ≡ Some g → slice_get picks j ≡ Some h
    → ComesNoLater g h
ascends picks sorted i j g h before at there =
    let within = slice_get_within picks j h there in
    let both = subst (λ k. IsNoLater (get_or picks i g) (get_or picks k g)) {x = i + (j - i)} {y = j} (omega arith)
    (far picks sorted i (j - i) g (omega arith)) in
    by_parts g h (subst (λ (x : Hold). IsNoLater x h) (get_or_from_slice_get picks i g g at)
    (subst (λ (y : Hold). IsNoLater (get_or picks i g) y) (get_or_from_slice_get picks j h g there) both))

-- the holds of a batch's orders, once they are sorted, are its picks
pub by_row : (holds : List Hold) (batch : List ℕ) (held picks : List Hold) → held ≡ filter (is_of batch) holds → IsPermutation held picks
    → IsSortedByPlace picks → AreByRow holds batch picks
by_row holds batch held picks are same sorted =
    record { just = subst (λ (hs : List Hold). IsPermutation hs picks) are same; ascend = ascends picks sorted }
