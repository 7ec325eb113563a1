-- Lists of holds by order and row.
use Rattle.std.proofs.Common.{◌≡◌, ◌≢◌, ◌∙◌, refl, sym, ap, subst, ℕ, zero, suc, ◌<◌, ◌≤◌, ◌==◌, ◌&&◌, ◌⊎◌, inl, inr, List, [], ◌∷◌, ◌++◌, Some, slice_get}
use Rattle.std.proofs.Common.{arith, eq-eqb, ne_eqb}
use Rattle.std.proofs.lemmas.Bool.{and_from, and_left, and_right, cases_eq, cases_lt, cond-false, cond-true}
use Rattle.std.proofs.lemmas.List.Sums.{sum_by-append, sum_by-cons}
use Rattle.wp_model.specs.Book.{held_list, hold_at, hold_for, hold_of_any, order_held_list, units_at, units_for}
use Rattle.wp_model.specs.HoldLists.{Each, IsBefore, IsHoldWithin, IsSome, Rises}
use Rattle.wp_model.specs.Sums.{sum_below}
use Rattle.wp_model.specs.declared.row.Hold.{Hold}

pub Each-then : (P Q : Hold → Type 0) (hs : List Hold) → ((h : Hold) → P h → Q h) → Each P hs → Each Q hs
Each-then P Q [] then' each = tt
Each-then P Q (h ∷ hs) then' each = (then' h each.0, Each-then P Q hs then' each.1)

Each-both : (P Q R : Hold → Type 0) (hs : List Hold) → ((h : Hold) → P h → Q h → R h) → Each P hs → Each Q hs → Each R hs
Each-both P Q R [] then' one two = tt
Each-both P Q R (h ∷ hs) then' one two = (then' h one.0 two.0, Each-both P Q R hs then' one.1 two.1)

-- what holds at each place of a list of holds holds of each
pub Each-from_at : (P : Hold → Type 0) (hs : List Hold) → ((k : ℕ) (h : Hold) → slice_get hs k ≡ Some h → P h) → Each P hs
Each-from_at P [] each = tt
Each-from_at P (h ∷ hs) each = (each 0 h refl, Each-from_at P hs (λ k g there. each (suc k) g there))

Each-append : (P : Hold → Type 0) (gs hs : List Hold) → Each P gs → Each P hs → Each P (gs ++ hs)
Each-append P [] hs one two = two
Each-append P (g ∷ gs) hs one two = (one.0, Each-append P gs hs one.1 two)

Rises-append : (gs hs : List Hold) → Rises gs → Rises hs → Each (λ g. Each (IsBefore g) hs) gs → Rises (gs ++ hs)
Rises-append [] hs one two across = two
Rises-append (g ∷ gs) hs one two across = (Each-append (IsBefore g) gs hs one.0 across.0, Rises-append gs hs one.1 two across.1)

hold_for-own : (order row : ℕ) (hold : Hold) → hold.order ≡ order → hold.row ≡ row → hold_for order row hold ≡ hold.quantity
hold_for-own order row hold o r = cond-true ((hold.order == order) && (hold.row == row)) hold.quantity 0
    (and_from _ _ (eq-eqb hold.order order o) (eq-eqb hold.row row r))

hold_for-other_order : (order row : ℕ) (hold : Hold) → hold.order ≢ order → hold_for order row hold ≡ 0
hold_for-other_order order row hold other = cond-false ((hold.order == order) && (hold.row == row)) hold.quantity 0
    (and_left _ _ (ne_eqb hold.order order other))

hold_for-other_row : (order row : ℕ) (hold : Hold) → hold.row ≢ row → hold_for order row hold ≡ 0
hold_for-other_row order row hold other = cond-false ((hold.order == order) && (hold.row == row)) hold.quantity 0 (and_right _ _ (ne_eqb hold.row row other))

-- a hold is for the order at the row, or has no units for it there
cases_for : (order row : ℕ) (hold : Hold) → ((hold.order ≡ order) × (hold.row ≡ row)) ⊎ (hold_for order row hold ≡ 0)
cases_for order row hold = elim (cases_eq hold.order order) [
  | inl o ↦ elim (cases_eq hold.row row) [ inl r ↦ inl (o, r) | inr other ↦ inr (hold_for-other_row order row hold other) ]
  | inr other ↦ inr (hold_for-other_order order row hold other)
]

-- where an order has units at a row there is a hold of it
record IsFound (P : Hold → Type 0) (order row : ℕ) : Type 0 where
  hold : Hold
  has : P hold
  for_order : hold.order ≡ order
  at_row : hold.row ≡ row

found : (P : Hold → Type 0) (order row : ℕ) (hs : List Hold) → Each P hs → units_for hs order row ≢ 0 → IsFound P order row
found P order row [] each some = absurd (some refl)
found P order row (h ∷ hs) each some = elim (cases_for order row h) [
  | inl here ↦ record { hold = h; has = each.0; for_order = here.0; at_row = here.1 }
  | inr none ↦ found P order row hs each.1 (λ e. some (omega (arith, sum_by-cons (hold_for order row) h hs, none, e)))
]

none_for : (P : Hold → Type 0) (order row : ℕ) (hs : List Hold) → Each P hs → ((h : Hold) → P h → h.order ≡ order → h.row ≡ row → ⊥)
    → units_for hs order row ≡ 0
none_for P order row hs each never = elim (cases_eq (units_for hs order row) 0) [
  | inl none ↦ none
  | inr some ↦ let is = found P order row hs each some in absurd (never is.hold is.has is.for_order is.at_row)
]

-- holds at no row from a number on have nothing there
none_at : (rows order row : ℕ) (hs : List Hold) → Each (λ h. (h.order ≡ order) × (h.row < rows) × (0 < h.quantity)) hs → rows ≤ row → units_at hs row ≡ 0
none_at rows order row [] each past = refl
none_at rows order row (h ∷ hs) each past =
    let here = cond-false (h.row == row) h.quantity 0 (ne_eqb h.row row (λ e. absurd (omega (arith, each.0.1)))) in
    omega (arith, sum_by-cons (hold_at row) h hs, here, none_at rows order row hs each.1 past)

-- the first hold of a list stands no later than where the list has units
record IsNoLater (hold : Hold) (order row : ℕ) : Type 0 where
  order_le : hold.order ≤ order
  row_le : hold.order ≡ order → hold.row ≤ row

first_no_later : (order row : ℕ) (h : Hold) (hs : List Hold) → Each (IsBefore h) hs → units_for (h ∷ hs) order row ≢ 0 → IsNoLater h order row
first_no_later order row h hs before some = elim (cases_for order row h) [
  | inl here ↦ record { order_le = omega (arith, here.0); row_le = λ e. omega (arith, here.1) }
  | inr none ↦
      let is = found (IsBefore h) order row hs before (λ e. some (omega (arith, sum_by-cons (hold_for order row) h hs, none, e))) in
      elim is.has [
        | inl earlier ↦ record { order_le = omega (arith, is.for_order, earlier); row_le = λ e. absurd (omega (arith, is.for_order, earlier)) }
        | inr same ↦ record { order_le = omega (arith, is.for_order, same.0); row_le = λ e. omega (arith, is.at_row, same.1) }
      ]
]

before_own : (h g : Hold) → IsBefore h g → g.order ≡ h.order → g.row ≡ h.row → ⊥
before_own h g before o r = elim before [ inl earlier ↦ absurd (omega arith) | inr same ↦ absurd (omega (arith, same.1)) ]

abbrev make : ℕ → ℕ → ℕ → Hold
make order row quantity = record { order = order; row = row; quantity = quantity }

same_hold : (g h : Hold) → g.order ≡ h.order → g.row ≡ h.row → g.quantity ≡ h.quantity → g ≡ h
same_hold g h o r q =
    let with_order : g ≡ (record { order = h.order; row = g.row; quantity = g.quantity }) = ap (λ n. make n g.row g.quantity) o in
    let with_row : make h.order g.row g.quantity ≡ make h.order h.row g.quantity = ap (λ n. make h.order n g.quantity) r in
    let with_units : make h.order h.row g.quantity ≡ h = ap (λ n. make h.order h.row n) q in
    with_order ∙ (with_row ∙ with_units)

-- lists that rise and have the same units are the same
same_lists : (gs hs : List Hold) → Rises gs → Rises hs → Each IsSome gs → Each IsSome hs → ((order row : ℕ) → units_for gs order row ≡ units_for hs order row)
    → gs ≡ hs
same_lists [] [] one two some other same = refl
same_lists [] (h ∷ hs) one two some other same = absurd (omega
    (arith, same h.order h.row, sum_by-cons (hold_for h.order h.row) h hs, hold_for-own h.order h.row h refl refl, other.0))
same_lists (g ∷ gs) [] one two some other same = absurd (omega
    (arith, same g.order g.row, sum_by-cons (hold_for g.order g.row) g gs, hold_for-own g.order g.row g refl refl, some.0))
same_lists (g ∷ gs) (h ∷ hs) one two some other same =
    let g_units = sum_by-cons (hold_for g.order g.row) g gs in
    let h_units = sum_by-cons (hold_for h.order h.row) h hs in
    let g_own = hold_for-own g.order g.row g refl refl in
    let h_own = hold_for-own h.order h.row h refl refl in
    let h_first = first_no_later g.order g.row h hs two.0 (λ e. absurd (omega (arith, same g.order g.row, g_units, g_own, some.0, e))) in
    let g_first = first_no_later h.order h.row g gs one.0 (λ e. absurd (omega (arith, same h.order h.row, h_units, h_own, other.0, e))) in
    let o : g.order ≡ h.order = omega (arith, h_first.order_le, g_first.order_le) in
    let r : g.row ≡ h.row = omega (arith, h_first.row_le (sym o), g_first.row_le o) in
    let g_rest = none_for (IsBefore g) g.order g.row gs one.0 (before_own g) in
    let h_rest = none_for (IsBefore h) g.order g.row hs two.0 (λ x before p q. before_own h x before (p ∙ o) (q ∙ r)) in
    let h_here = hold_for-own g.order g.row h (sym o) (sym r) in
    let q : g.quantity ≡ h.quantity = omega (arith, same g.order g.row, g_units, g_own, g_rest, sum_by-cons (hold_for g.order g.row) h hs, h_here, h_rest) in
    let head = same_hold g h o r q in
    let tail = same_lists gs hs one.1 two.1 some.1 other.1 (λ order row.
    omega (arith, same order row, sum_by-cons (hold_for order row) g gs, sum_by-cons (hold_for order row) h hs, ap (hold_for order row) head)) in
    ap (λ x. x ∷ gs) head ∙ ap (λ rest. h ∷ rest) tail

-- what a hold of any units is, and what it has
abbrev IsOrderHold : ℕ → ℕ → Hold → Type 0
IsOrderHold order rows hold = (hold.order ≡ order) × (hold.row < rows) × (0 < hold.quantity)

record IsHoldOfAny (order row units : ℕ) (holds : List Hold) : Type 0 where
  each : Each (IsOrderHold order (suc row)) holds
  rises : Rises holds
  last : Each (λ h. h.row ≡ row) holds
  own : units_for holds order row ≡ units
  other : (k : ℕ) → k ≢ row → units_for holds order k ≡ 0
  at : units_at holds row ≡ units
  other_at : (k : ℕ) → k ≢ row → units_at holds k ≡ 0

hold_of_any-is : (order row units : ℕ) → IsHoldOfAny order row units (hold_of_any order row units)
hold_of_any-is order row units = elim (cases_eq units 0) [
  | inl none ↦ subst (IsHoldOfAny order row units) (sym (cond-true (units == 0) [] (make order row units ∷ []) (eq-eqb units 0 none))) (record {
    each = tt;
    rises = tt;
    last = tt;
    own = sym none;
    other = λ k away. refl;
    at = sym none;
    other_at = λ k away. refl;
  })
  | inr some ↦
      let hold = make order row units in
      subst (IsHoldOfAny order row units) (sym (cond-false (units == 0) [] (hold ∷ []) (ne_eqb units 0 some))) (record {
        each = ((refl, omega arith, omega arith), tt);
        rises = (tt, tt);
        last = (refl, tt);
        own = omega (arith, hold_for-own order row hold refl refl);
        other = λ k away. omega (arith, hold_for-other_row order k hold (λ e. away (sym e)));
        at = omega (arith, cond-true (row == row) units 0 (eq-eqb row row refl));
        other_at = λ k away. omega (arith, cond-false (row == k) units 0 (ne_eqb row k (λ e. away (sym e))));
      })
]

-- the holds of one order
order_holds : (order rows : ℕ) (units : ℕ → ℕ) → Each (IsOrderHold order rows) (order_held_list order rows units)
order_holds order zero units = tt
order_holds order (suc row) units =
    Each-append (IsOrderHold order (suc row)) (order_held_list order row units) (hold_of_any order row (units row))
    (Each-then (IsOrderHold order row) (IsOrderHold order (suc row)) _ (λ h is. (is.0, omega (arith, is.1), is.2)) (order_holds order row units))
    (hold_of_any-is order row (units row)).each

-- they rise
order_rises : (order rows : ℕ) (units : ℕ → ℕ) → Rises (order_held_list order rows units)
order_rises order zero units = tt
order_rises order (suc row) units =
    let any = hold_of_any-is order row (units row) in
    Rises-append (order_held_list order row units) (hold_of_any order row (units row)) (order_rises order row units) any.rises
    (Each-then (IsOrderHold order row) (λ g. Each (IsBefore g) (hold_of_any order row (units row))) _
    (λ g is. Each-both (IsOrderHold order (suc row)) (λ h. h.row ≡ row) (IsBefore g) _
    (λ h has at. inr (is.0 ∙ sym has.0, omega (arith, is.1, at))) any.each any.last) (order_holds order row units))

-- what they have for the order, and in all, at a row
order_units : (order rows : ℕ) (units : ℕ → ℕ) (row : ℕ) → row < rows → units_for (order_held_list order rows units) order row ≡ units row
order_units order zero units row within = absurd (omega arith)
order_units order (suc last) units row within =
    let list = order_held_list order last units in
    let any = hold_of_any-is order last (units last) in
    let split = sum_by-append (hold_for order row) list (hold_of_any order last (units last)) in
    elim (cases_eq row last) [
      | inl here ↦
          let none = none_for (IsOrderHold order last) order row list (order_holds order last units) (λ h is o r. absurd (omega (arith, is.1))) in
          omega (arith, split, none, ap (units_for (hold_of_any order last (units last)) order) here, any.own, ap units here)
      | inr other ↦ omega (arith, split, any.other row other, order_units order last units row (omega arith))
    ]

order_at : (order rows : ℕ) (units : ℕ → ℕ) (row : ℕ) → row < rows → units_at (order_held_list order rows units) row ≡ units row
order_at order zero units row within = absurd (omega arith)
order_at order (suc last) units row within =
    let list = order_held_list order last units in
    let any = hold_of_any-is order last (units last) in
    let split = sum_by-append (hold_at row) list (hold_of_any order last (units last)) in
    elim (cases_eq row last) [
      | inl here ↦ omega (
        arith,
        split,
        none_at last order row list (order_holds order last units) (omega arith),
        ap (units_at (hold_of_any order last (units last))) here,
        any.at,
        ap units here,
      )
      | inr other ↦ omega (arith, split, any.other_at row other, order_at order last units row (omega arith))
    ]

-- each hold of the list is of some units, and for one of the orders at one of the rows
pub held_within : (orders rows : ℕ) (held : ℕ → ℕ → ℕ) → Each (IsHoldWithin orders rows) (held_list orders rows held)
held_within zero rows held = tt
held_within (suc order) rows held =
    Each-append (IsHoldWithin (suc order) rows) (held_list order rows held) (order_held_list order rows (held order))
    (Each-then (IsHoldWithin order rows) (IsHoldWithin (suc order) rows) _ (λ h is. (omega (arith, is.0), is.1, is.2)) (held_within order rows held))
    (Each-then (IsOrderHold order rows) (IsHoldWithin (suc order) rows) _ (λ h is. (omega (arith, is.0), is.1, is.2)) (order_holds order rows (held order)))

pub held_rises : (orders rows : ℕ) (held : ℕ → ℕ → ℕ) → Rises (held_list orders rows held)
held_rises zero rows held = tt
held_rises (suc order) rows held =
    Rises-append (held_list order rows held) (order_held_list order rows (held order)) (held_rises order rows held) (order_rises order rows (held order))
    (Each-then (IsHoldWithin order rows) (λ g. Each (IsBefore g) (order_held_list order rows (held order))) _
    (λ g is. Each-then (IsOrderHold order rows) (IsBefore g) _ (λ h has. inl (omega (arith, is.0, has.0))) (order_holds order rows (held order)))
    (held_within order rows held))

-- what they have for an order at a row
pub held_units : (orders rows : ℕ) (held : ℕ → ℕ → ℕ) (order row : ℕ) → order < orders → row < rows
    → units_for (held_list orders rows held) order row ≡ held order row
held_units zero rows held order row below within = absurd (omega arith)
held_units (suc last) rows held order row below within =
    let split = sum_by-append (hold_for order row) (held_list last rows held) (order_held_list last rows (held last)) in
    elim (cases_eq order last) [
      | inl here ↦
          let none = none_for (IsHoldWithin last rows) order row (held_list last rows held) (held_within last rows held)
          (λ h is o r. absurd (omega (arith, is.0))) in
          omega (
            arith,
            split,
            none,
            ap (λ o. units_for (order_held_list last rows (held last)) o row) here,
            order_units last rows (held last) row within,
            ap (λ o. held o row) here,
          )
      | inr other ↦
          let none = none_for (IsOrderHold last rows) order row (order_held_list last rows (held last)) (order_holds last rows (held last))
          (λ h is o r. absurd (other (sym o ∙ is.0))) in
          omega (arith, split, none, held_units last rows held order row (omega arith) within)
    ]

-- the list has no units for an order or a row past the last
pub held_none : (orders rows : ℕ) (held : ℕ → ℕ → ℕ) (order row : ℕ) → (orders ≤ order) ⊎ (rows ≤ row) → units_for (held_list orders rows held) order row ≡ 0
held_none orders rows held order row past =
    none_for (IsHoldWithin orders rows) order row (held_list orders rows held) (held_within orders rows held)
    (λ h is o r. elim past [ inl a ↦ absurd (omega (arith, is.0)) | inr b ↦ absurd (omega (arith, is.1)) ])

-- what they have at a row
pub held_at_row : (orders rows : ℕ) (held : ℕ → ℕ → ℕ) (row : ℕ) → row < rows
    → units_at (held_list orders rows held) row ≡ sum_below orders (λ order. held order row)
held_at_row zero rows held row within = refl
held_at_row (suc last) rows held row within =
    omega (
      arith,
      sum_by-append (hold_at row) (held_list last rows held) (order_held_list last rows (held last)),
      held_at_row last rows held row within,
      order_at last rows (held last) row within,
    )

-- a list that rises is that of the units that it has
pub is_held_list : (hs : List Hold) (orders rows : ℕ) (held : ℕ → ℕ → ℕ) → Rises hs → Each IsSome hs
    → ((order row : ℕ) → units_for hs order row ≡ held order row)
    → ((order row : ℕ) → (orders ≤ order) ⊎ (rows ≤ row) → held order row ≡ 0) → hs ≡ held_list orders rows held
is_held_list hs orders rows held rises some units past =
    same_lists hs (held_list orders rows held) rises (held_rises orders rows held) some
    (Each-then (IsHoldWithin orders rows) IsSome _ (λ h is. is.2) (held_within orders rows held)) (λ order row. units order row ∙ sym (all order row))
  where
    all : (order row : ℕ) → units_for (held_list orders rows held) order row ≡ held order row
    all order row = elim (cases_lt order orders) [
      | inl below ↦ elim (cases_lt row rows) [
        | inl within ↦ held_units orders rows held order row below within
        | inr outside ↦ held_none orders rows held order row (inr outside) ∙ sym (past order row (inr outside))
      ]
      | inr beyond ↦ held_none orders rows held order row (inl beyond) ∙ sym (past order row (inl beyond))
    ]
