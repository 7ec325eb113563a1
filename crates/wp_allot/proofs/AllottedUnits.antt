-- What orders take by overlap can be held, and is held then.
use Rattle.std.proofs.Common.{◌≡◌, ◌∙◌, refl, sym, ap, subst, ℕ, zero, suc, ◌+◌, ◌<◌, ◌≤◌, ◌==◌, ◌&&◌, max, inl, inr, List, [], ◌∷◌, length, Option, Some}
use Rattle.std.proofs.Common.{All, slice_get, arith, ne_eqb}
use Rattle.std.proofs.lemmas.Bool.{and_right, cases_lt, cond-false}
use Rattle.std.proofs.lemmas.List.Sums.{sum_by-cons}
use Rattle.std.proofs.lemmas.Option.{slice_get_within}
use Rattle.wp_model.proofs.Elements.{All-from_at, if_some}
use Rattle.wp_model.proofs.HeldList.{held_at_row, held_none, held_units, held_within}
use Rattle.wp_model.specs.HoldLists.{Each, IsHoldWithin}
use Rattle.wp_model.proofs.Share.{shares-le-free}
use Rattle.wp_model.specs.Book.{Book, held_for, held_list, units_at, units_for}
use Rattle.wp_model.specs.Change.{hold_units, share}
use Rattle.wp_model.specs.Sums.{sum_below}
use Rattle.wp_model.specs.declared.row.Hold.{Hold}
use Rattle.wp_model.specs.declared.row.Row.{Row}
use Rattle.wp_book.proofs.RowChanges.{changes_agree}
use Rattle.wp_book.specs.Calls.{CanHold, HasHeld}
use Rattle.wp_book.specs.Room.{Content}
use Rattle.wp_allot.proofs.OverlapHolds.{share_beyond}
use Rattle.wp_allot.specs.Wants.{HasOverlaps, IsAllotted, WantsBelow, units_for as want_for, wanted_for}
use Rattle.wp_allot.specs.declared.want.Want.{Want}

-- a place past all orders that want anything
abbrev pub past_all : List Want → ℕ
past_all [] = 0
past_all (w ∷ wants) = max (suc w.order) (past_all wants)

-- nothing is wanted from that place on
pub past_all-is : (wants : List Want) → WantsBelow wants (past_all wants)
past_all-is [] article order past = refl
past_all-is (w ∷ wants) article order past =
    let none = cond-false ((w.article == article) && (w.order == order)) w.quantity 0
    (and_right _ _ (ne_eqb w.order order (λ e. absurd (omega (arith, past))))) in
    omega (arith, sum_by-cons (want_for article order) w wants, none, past_all-is wants article order (omega (arith, past)))

All-from_each : (P Q : Hold → Type 0) (hs : List Hold) → ((h : Hold) → P h → Q h) → Each P hs → (k : ℕ) (h : Hold) → slice_get hs k ≡ Some h → Q h
All-from_each P Q [] then' each k h there = absurd (omega (arith, slice_get_within [] k h there))
All-from_each P Q (g ∷ hs) then' each zero h there = subst Q (cc) (then' g each.0)
All-from_each P Q (g ∷ hs) then' each (suc k) h there = All-from_each P Q hs then' each.1 k h there

-- the units of the room's holds
units_in_room : (rows : List Row) (wants : List Want) (except : Option ℕ) (old new : Content) (orders k : ℕ) (r : Row) → HasOverlaps rows wants except old new
    → WantsBelow wants orders → slice_get rows k ≡ Some r
    → units_at new.holds k ≡ sum_below orders (λ order. share (wanted_for wants) rows except order k)
units_in_room rows wants except old new orders k r has below there =
    ap (λ holds. units_at holds k) (has.holds orders below) ∙ held_at_row orders (length rows) (share (wanted_for wants) rows except) k
    (slice_get_within rows k r there)

units_for_order : (rows : List Row) (wants : List Want) (except : Option ℕ) (old new : Content) (order k : ℕ) → HasOverlaps rows wants except old new
    → units_for new.holds order k ≡ share (wanted_for wants) rows except order k
units_for_order rows wants except old new order k has =
    let orders = past_all wants in
    let held = share (wanted_for wants) rows except in
    let below = past_all-is wants in
    ap (λ holds. units_for holds order k) (has.holds orders below) ∙ elim (cases_lt order orders) [
      | inl under ↦ elim (cases_lt k (length rows)) [
        | inl within ↦ held_units orders (length rows) held order k under within
        | inr outside ↦ held_none orders (length rows) held order k (inr outside) ∙ sym (share_beyond rows wants except orders order k below (inr outside))
      ]
      | inr past ↦ held_none orders (length rows) held order k (inl past) ∙ sym (share_beyond rows wants except orders order k below (inl past))
    ]

-- the holds that orders take by overlap can be held
pub can_hold : (book : Book) (wants : List Want) (except : Option ℕ) (old new : Content) → HasOverlaps book.rows wants except old new → CanHold book new.holds
can_hold book wants except old new has =
    let orders = past_all wants in
    let held = share (wanted_for wants) book.rows except in
    record {
      rows = subst (All (λ (hold : Hold). hold.row < length book.rows)) (sym (has.holds orders (past_all-is wants)))
          (All-from_at (λ (hold : Hold). hold.row < length book.rows) (held_list orders (length book.rows) held)
          (All-from_each (IsHoldWithin orders (length book.rows)) (λ (hold : Hold). hold.row < length book.rows) (held_list orders (length book.rows) held)
          (λ h is. is.1) (held_within orders (length book.rows) held)));
      free = λ row. if_some (slice_get book.rows row) (λ r. units_at new.holds row ≤ r.free) (λ r there.
          omega (
            arith,
            units_in_room book.rows wants except old new orders row r has (past_all-is wants) there,
            shares-le-free (wanted_for wants) book.rows except orders row r there,
          ));
    }

-- and once they are held, the orders have from each row what they take by overlap
pub is_allotted : (wave : ℕ) (wants : List Want) (except : Option ℕ) (room room' : Content) (old new : Book) → HasOverlaps old.rows wants except room room'
    → HasHeld wave room'.holds old new → IsAllotted wave wants except old new
is_allotted wave wants except room room' old new has held = record {
  rows = λ orders below. held.rows ∙ changes_agree _ _ old.rows
      (λ k r there. ap (λ n. hold_units n r) (units_in_room old.rows wants except room room' orders k r has below there));
  held = λ order row. held.held order row ∙ ap (λ n. held_for old wave order row + n) (units_for_order old.rows wants except room room' order row has);
  others = held.others;
}
