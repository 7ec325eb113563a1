-- Holds of which an order has no two at one row.
use Rattle.std.proofs.Common.{◌≡◌, ◌∙◌, refl, sym, ap, subst, ℕ, suc, ◌+◌, ◌<◌, ◌≤◌, ◌==◌, Bool, true, false, inl, inr, min, List, [], ◌∷◌, ◌++◌, length}
use Rattle.std.proofs.Common.{slice_get, Some, All, if◌then◌else◌, arith, eq-eqb, ne_eqb, length-append}
use Rattle.std.proofs.lemmas.Bool.{and_parts, cases_eq, cond-false, cond-true, cond_both, eqb-true}
use Rattle.std.proofs.lemmas.List.Sums.{sum_by-cons, sum_by_push}
use Rattle.std.specs.List.{count_by}
use Rattle.wp_model.proofs.Elements.{All-at, All-from_at, slice_get-push}
use Rattle.wp_model.specs.Book.{hold_for, units_for}
use Rattle.wp_model.specs.declared.row.Hold.{Hold}
use Rattle.wp_model.specs.declared.row.Row.{Row}
use Rattle.wp_book.specs.Room.{Content}
use Rattle.wp_allot.specs.DealtUnits.{AreSingle, is_hold}

-- one hold more or less by its test
abbrev pub counts : ℕ → ℕ → Hold → ℕ
counts order row hold = if is_hold order row hold then 1 else 0

counts-le : (order row : ℕ) (hold : Hold) → 0 < hold.quantity → counts order row hold ≤ hold_for order row hold
counts-le order row hold some = pick (is_hold order row hold) hold.quantity some
  where
    pick : (b : Bool) (q : ℕ) → 0 < q → (if b then 1 else 0) ≤ (if b then q else 0)
    pick true q some = omega arith
    pick false q some = omega arith

-- an order that holds no unit at a row has no hold there
count-none : (order row : ℕ) (holds : List Hold) → ((k : ℕ) (h : Hold) → slice_get holds k ≡ Some h → 0 < h.quantity) → units_for holds order row ≡ 0
    → count_by (is_hold order row) holds ≡ 0
count-none order row [] some none = refl
count-none order row (h ∷ hs) some none =
    let units = sum_by-cons (hold_for order row) h hs in
    let rest = count-none order row hs (λ k g there. some (suc k) g there) (omega (arith, units, none)) in
    omega (arith, sum_by-cons (counts order row) h hs, units, none, rest, counts-le order row h (some 0 h refl))

All-pushed : (P : Hold → Type 0) (holds : List Hold) (hold : Hold) → All P holds → P hold → All P (holds ++ hold ∷ [])
All-pushed P holds hold all one =
    All-from_at P (holds ++ hold ∷ []) (λ k h there.
    elim (slice_get-push holds k h hold there) [
      | inl before ↦ All-at P holds k h all before
      | inr last ↦ subst P (sym last.1) one
    ])

-- one hold more, of an order that had none at its row
single_pushed : (rows : List Row) (holds : List Hold) (hold : Hold) → AreSingle rows holds → 0 < hold.quantity → hold.row < length rows
    → units_for holds hold.order hold.row ≡ 0
    → AreSingle rows (holds ++ hold ∷ [])
single_pushed rows holds hold is some within none = record {
  some = All-pushed (λ (h : Hold). 0 < h.quantity) holds hold is.some some;
  within = All-pushed (λ (h : Hold). h.row < length rows) holds hold is.within within;
  once = λ order row.
      let more = sum_by_push (counts order row) holds hold in
      let before = count-none hold.order hold.row holds (λ k h there. All-at (λ (h : Hold). 0 < h.quantity) holds k h is.some there) none in
      omega (arith, more, pick order row (is_hold order row hold) refl before (is.once order row));
}
  where
    pick : (order row : ℕ) (b : Bool) → is_hold order row hold ≡ b → count_by (is_hold hold.order hold.row) holds ≡ 0 → count_by (is_hold order row) holds ≤ 1
        → count_by (is_hold order row) holds + counts order row hold ≤ 1
    pick order row true e none most =
        let same = and_parts (hold.order == order) (hold.row == row) e in
        let o : hold.order ≡ order = eqb-true hold.order order same.0 in
        let r : hold.row ≡ row = eqb-true hold.row row same.1 in
        omega (
          arith,
          ap (λ n. count_by (is_hold n row) holds) o,
          ap (λ n. count_by (is_hold hold.order n) holds) r,
          none,
          cond-true {A = ℕ} (is_hold order row hold) 1 0 e,
        )
    pick order row false e none most = omega (arith, cond-false {A = ℕ} (is_hold order row hold) 1 0 e)

-- what a hold that was put in adds
pub record HasPut (rows : List Row) (old new : Content) (hold : Hold) : Type 0 where
  pub size : new.size ≡ old.size
  pub long : length new.holds ≡ length old.holds + min 1 hold.quantity
  pub single : AreSingle rows new.holds
  pub units : (order row : ℕ) → units_for new.holds order row ≡ units_for old.holds order row + hold_for order row hold

-- a hold that is put in, where its order has none at its row, adds its units and is the only one there
pub has_put : (rows : List Row) (old new : Content) (hold : Hold) → AreSingle rows old.holds → (0 < hold.quantity → hold.row < length rows)
    → (0 < hold.quantity → units_for old.holds hold.order hold.row ≡ 0)
    → new ≡ (if hold.quantity == 0 then old else record old { holds = old.holds ++ hold ∷ [] }) → HasPut rows old new hold
has_put rows old new hold is within none e = elim (cases_eq hold.quantity 0) [
  | inl nothing ↦
      let same : new ≡ old = e ∙ cond-true (hold.quantity == 0) _ _ (eq-eqb hold.quantity 0 nothing) in
      subst (λ (new : Content). HasPut rows old new hold) (sym same) (record {
        size = refl;
        long = omega (arith, nothing);
        single = is;
        units = λ order row. omega (arith, cond_both (is_hold order row hold) hold.quantity 0 (λ n. n ≡ 0) (λ b. nothing) (λ b. refl));
      })
  | inr some ↦
      let same : new ≡ (record old { holds = old.holds ++ hold ∷ [] }) = e ∙ cond-false (hold.quantity == 0) _ _ (ne_eqb hold.quantity 0 some) in
      subst (λ (new : Content). HasPut rows old new hold) (sym same) (record {
        size = refl;
        long = omega (arith, length-append old.holds (hold ∷ []));
        single = single_pushed rows old.holds hold is (omega arith) (within (omega arith)) (none (omega arith));
        units = λ order row. sum_by_push (hold_for order row) old.holds hold;
      })
]
