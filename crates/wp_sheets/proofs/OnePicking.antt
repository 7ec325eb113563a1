-- The picks of a batch are determined by its wave's holds.
use Rattle.std.proofs.Common.{◌≡◌, ◌∙◌, refl, sym, ap, subst, ℕ, suc, ◌<◌, ◌≤◌, ◌⊎◌, inl, inr, List, [], ◌∷◌, Contains, Some, slice_get, arith, eqb-true}
use Rattle.std.proofs.Common.{eq-eqb, Bool, true, ◌==◌, ◌&&◌, if◌then◌else◌}
use Rattle.std.proofs.lemmas.Bool.{and_from, and_parts, cases_Bool, cond-false, cond-true}
use Rattle.std.proofs.lemmas.List.Elements.{Contains-append_cases, Contains-append_left, Contains-append_right, Contains-push, Contains-push_cases}
use Rattle.std.proofs.lemmas.List.Sorted.{sum_by-IsPermutation}
use Rattle.std.proofs.lemmas.List.Sums.{sum_by-cons}
use Rattle.std.proofs.lemmas.Option.{slice_get-get_or}
use Rattle.std.specs.List.{sum_by}
use Rattle.wp_model.specs.declared.row.Hold.{Hold}
use Rattle.wp_sheets.specs.Picks.{AreByRow, ComesNoLater}

-- each pick comes no later than those that stand after it
abbrev pub Ascend : List Hold → Type 0
Ascend picks = (i j : ℕ) (g h : Hold) → i < j → slice_get picks i ≡ Some g → slice_get picks j ≡ Some h → ComesNoLater g h

pub first_in : (h : Hold) (hs : List Hold) → Contains (h ∷ hs) h
first_in h hs = Contains-append_left (h ∷ []) hs h (Contains-push [] h)

pub later_in : (h : Hold) (hs : List Hold) (g : Hold) → Contains hs g → Contains (h ∷ hs) g
later_in h hs g has = Contains-append_right (h ∷ []) hs g has

pub none_in : (g : Hold) → Contains [] g → ⊥
none_in g has = omega (arith, has.1)

pub in_cases : (h : Hold) (hs : List Hold) (g : Hold) → Contains (h ∷ hs) g → (h ≡ g) ⊎ Contains hs g
in_cases h hs g has = elim (Contains-append_cases (h ∷ []) hs g has) [
  | inl one ↦ elim (Contains-push_cases [] h g one) [ inl none ↦ absurd (none_in g none) | inr same ↦ inl same ]
  | inr later ↦ inr later
]

pub before_later : (h : Hold) (hs : List Hold) (g : Hold) → Ascend (h ∷ hs) → Contains hs g → ComesNoLater h g
before_later h hs g up has = up 0 (suc has.0) h g (omega arith) refl (slice_get-get_or hs has.0 g has.1 ∙ ap Some has.2)

pub rest_ascends : (h : Hold) (hs : List Hold) → Ascend (h ∷ hs) → Ascend hs
rest_ascends h hs up = λ i j g k before at there. up (suc i) (suc j) g k (omega arith) at there

abbrev make : ℕ → ℕ → ℕ → Hold
make order row quantity = record { order = order; row = row; quantity = quantity }

same_hold : (g h : Hold) → g.order ≡ h.order → g.row ≡ h.row → g.quantity ≡ h.quantity → g ≡ h
same_hold g h o r q =
    let with_order : g ≡ make h.order g.row g.quantity = ap (λ n. make n g.row g.quantity) o in
    let with_row : make h.order g.row g.quantity ≡ make h.order h.row g.quantity = ap (λ n. make h.order n g.quantity) r in
    let with_units : make h.order h.row g.quantity ≡ h = ap (λ n. make h.order h.row n) q in
    with_order ∙ (with_row ∙ with_units)

-- of two holds at one row neither of which comes later they are the same
same_at_row : (g h : Hold) → g.row ≡ h.row → (g.order < h.order) ⊎ ((g.order ≡ h.order) × (g.quantity ≤ h.quantity))
    → (h.order < g.order) ⊎ ((h.order ≡ g.order) × (h.quantity ≤ g.quantity)) → g ≡ h
same_at_row g h row one other = elim one [
  | inl less ↦ elim other [ inl more ↦ absurd (omega arith) | inr tie ↦ absurd (omega (arith, tie.0)) ]
  | inr same ↦ elim other [
    | inl more ↦ absurd (omega (arith, same.0))
    | inr tie ↦ same_hold g h same.0 row (omega (arith, same.1, tie.1))
  ]
]

-- two holds neither of which comes later are the same
never_both : (g h : Hold) → ComesNoLater g h → ComesNoLater h g → g ≡ h
never_both g h one other = elim one [
  | inl less ↦ elim other [ inl more ↦ absurd (omega arith) | inr tie ↦ absurd (omega (arith, tie.0)) ]
  | inr same ↦ elim other [
    | inl more ↦ absurd (omega (arith, same.0))
    | inr tie ↦ same_at_row g h same.0 same.1 tie.1
  ]
]

-- a hold is another one
abbrev is_same : Hold → Hold → Bool
is_same h g = (h.order == g.order) && ((h.row == g.row) && (h.quantity == g.quantity))

abbrev count_of : Hold → Hold → ℕ
count_of h g = if is_same h g then 1 else 0

is_itself : (h : Hold) → is_same h h ≡ true
is_itself h = and_from _ _ (eq-eqb h.order h.order refl) (and_from _ _ (eq-eqb h.row h.row refl) (eq-eqb h.quantity h.quantity refl))

same_by_test : (h g : Hold) → is_same h g ≡ true → h ≡ g
same_by_test h g is =
    let parts = and_parts (h.order == g.order) ((h.row == g.row) && (h.quantity == g.quantity)) is in
    let others = and_parts (h.row == g.row) (h.quantity == g.quantity) parts.1 in
    same_hold h g (eqb-true h.order g.order parts.0) (eqb-true h.row g.row others.0) (eqb-true h.quantity g.quantity others.1)

counts_itself : (h : Hold) → count_of h h ≡ 1
counts_itself h = cond-true {A = ℕ} (is_same h h) 1 0 (is_itself h)

-- a hold that is counted among others is one of them
in_counted : (h : Hold) (hs : List Hold) → 1 ≤ sum_by (count_of h) hs → Contains hs h
in_counted h [] some = absurd (omega arith)
in_counted h (g ∷ gs) some = elim (cases_Bool (is_same h g)) [
  | inl is ↦ subst (Contains (g ∷ gs)) (sym (same_by_test h g is)) (first_in g gs)
  | inr other ↦
      let rest : 1 ≤ sum_by (count_of h) gs = omega (arith, some, sum_by-cons (count_of h) g gs, cond-false {A = ℕ} (is_same h g) 1 0 other) in
      later_in g gs h (in_counted h gs rest)
]

-- the first of some holds is one of others that come to the same by each count
first_of_same : (h : Hold) (hs ks : List Hold) → sum_by (count_of h) (h ∷ hs) ≡ sum_by (count_of h) ks → Contains ks h
first_of_same h hs ks same = in_counted h ks (omega (arith, same, sum_by-cons (count_of h) h hs, counts_itself h))

-- holds that ascend and come to the same by each count are the same
same_first : (h : Hold) (hs : List Hold) (k : Hold) (ks : List Hold) → Ascend (h ∷ hs) → Ascend (k ∷ ks) → Contains (k ∷ ks) h → Contains (h ∷ hs) k → h ≡ k
same_first h hs k ks up down there back = elim (in_cases k ks h there) [
  | inl same ↦ sym same
  | inr late ↦ elim (in_cases h hs k back) [
    | inl same ↦ same
    | inr later ↦ never_both h k (before_later h hs k up later) (before_later k ks h down late)
  ]
]

same_ascending : (hs ks : List Hold) → Ascend hs → Ascend ks → ((f : Hold → ℕ) → sum_by f hs ≡ sum_by f ks) → hs ≡ ks
same_ascending [] [] up down same = refl
same_ascending [] (k ∷ ks) up down same = absurd (none_in k (first_of_same k ks [] (sym (same (count_of k)))))
same_ascending (h ∷ hs) [] up down same = absurd (none_in h (first_of_same h hs [] (same (count_of h))))
same_ascending (h ∷ hs) (k ∷ ks) up down same =
    let e = same_first h hs k ks up down (first_of_same h hs (k ∷ ks) (same (count_of h))) (first_of_same k ks (h ∷ hs) (sym (same (count_of k)))) in
    let rest = same_ascending hs ks (rest_ascends h hs up) (rest_ascends k ks down)
    (λ f. omega (arith, same f, sum_by-cons f h hs, sum_by-cons f k ks, ap f e)) in
    ap (λ (x : Hold). x ∷ hs) e ∙ ap (λ (xs : List Hold). k ∷ xs) rest

-- two lists of the picks of a batch are the same
pub one_picking : (holds : List Hold) (batch : List ℕ) (picks others : List Hold) → AreByRow holds batch picks → AreByRow holds batch others → picks ≡ others
one_picking holds batch picks others one two = same_ascending picks others one.ascend two.ascend
    (λ f. sum_by-IsPermutation f _ picks one.just ∙ sym (sum_by-IsPermutation f _ others two.just))
