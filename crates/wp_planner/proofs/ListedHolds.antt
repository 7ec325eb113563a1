-- Where units are held a hold is listed.
use Rattle.std.proofs.Common.{◌≡◌, ℕ, suc, ◌<◌, ◌==◌, ◌&&◌, List, [], ◌∷◌, inl, inr, refl, arith, ne_eqb, All, Contains}
use Rattle.std.proofs.lemmas.Bool.{and_left, cases_eq, cond-false}
use Rattle.std.proofs.lemmas.List.Elements.{All-cons, All-nil}
use Rattle.std.proofs.lemmas.List.Sums.{sum_by-cons}
use Rattle.wp_model.specs.Book.{hold_for, units_for}
use Rattle.wp_model.specs.HoldLists.{Each}
use Rattle.wp_model.specs.declared.row.Hold.{Hold}

-- what holds of each hold of a list holds of all of it
pub all_of_each : (P : Hold → Type 0) (hs : List Hold) → Each P hs → All P hs
all_of_each P [] each = All-nil P
all_of_each P (h ∷ hs) each = All-cons P h hs each.0 (all_of_each P hs each.1)

-- where a list has units for an order at a row, it has a hold for the order
pub hold_listed : (order row : ℕ) (hs : List Hold) → 0 < units_for hs order row → (h : Hold) × Contains hs h × (h.order ≡ order)
hold_listed order row [] some = absurd (omega arith)
hold_listed order row (h ∷ hs) some = elim (cases_eq h.order order) [
  | inl own ↦ (h, (0, omega arith, refl), own)
  | inr other ↦
      let none = cond-false ((h.order == order) && (h.row == row)) h.quantity 0 (and_left _ _ (ne_eqb h.order order other)) in
      let rest = hold_listed order row hs (omega (arith, some, sum_by-cons (hold_for order row) h hs, none)) in
      (rest.0, (suc rest.1.0, omega (arith, rest.1.1), rest.1.2), rest.2)
]
