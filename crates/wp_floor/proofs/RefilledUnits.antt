-- Units that are held in place of missing ones.
use Rattle.std.proofs.Common.{◌≡◌, ◌≢◌, ◌∙◌, refl, ap, ℕ, ◌+◌, ◌<◌, ◌==◌, ◌&&◌, false, inl, inr, List, [], ◌∷◌, length, Option, Some, None, arith}
use Rattle.std.proofs.Common.{eq-eqb, ne_eqb}
use Rattle.std.proofs.Math.Path.{fun_ext}
use Rattle.std.proofs.lemmas.Bool.{and_right, cases_eq, cond-false, cond-true}
use Rattle.std.proofs.lemmas.Bool.Decides.{nat_tests}
use Rattle.std.proofs.lemmas.List.Sums.{sum_by-cons}
use Rattle.std.specs.Option.{is_some}
use Rattle.wp_allot.specs.Wants.{HasOverlaps, IsAllotted, IsShort, WantsBelow, units_for, units_of, wanted_for, wanted_of}
use Rattle.wp_allot.specs.declared.want.Short.{Short}
use Rattle.wp_allot.specs.declared.want.Want.{Want}
use Rattle.wp_book.specs.Room.{Content}
use Rattle.wp_model.specs.Book.{Book, held_for, held_list}
use Rattle.wp_model.specs.Change.{change_rows, hold_units, share}
use Rattle.wp_model.specs.Step.{one_demand}
use Rattle.wp_model.specs.Sums.{sum_below}
use Rattle.wp_model.specs.declared.row.Row.{Row}
use Rattle.wp_floor.specs.MissingUnits.{IsHeldElsewhere}
use Rattle.wp_floor.specs.declared.held.HeldUnits.{HeldUnits}

-- what is wanted in place of lost units
abbrev pub want_again : HeldUnits → ℕ → Want
want_again lost quantity = record { order = lost.order; article = lost.article; quantity = quantity }

-- what one want wants
wanted_for_one : (lost : HeldUnits) (quantity article place : ℕ)
    → wanted_for (want_again lost quantity ∷ []) article place ≡ one_demand lost.order lost.article quantity article place
wanted_for_one lost quantity article place =
    let same : units_for article place (want_again lost quantity) ≡ one_demand lost.order lost.article quantity article place = grind (arith, nat_tests) in
    omega (arith, sum_by-cons (units_for article place) (want_again lost quantity) [], same)

demand_again : (lost : HeldUnits) (quantity : ℕ) → wanted_for (want_again lost quantity ∷ []) ≡ one_demand lost.order lost.article quantity
demand_again lost quantity = fun_ext (λ article. fun_ext (λ place. wanted_for_one lost quantity article place))

wanted_of_one : (want : Want) (article : ℕ) → wanted_of (want ∷ []) article ≡ units_of article want
wanted_of_one want article = omega (arith, sum_by-cons (units_of article) want [])

wanted_of_own : (want : Want) → wanted_of (want ∷ []) want.article ≡ want.quantity
wanted_of_own want = wanted_of_one want want.article ∙ cond-true (want.article == want.article) want.quantity 0 (eq-eqb want.article want.article refl)

-- what is wanted for one order is wanted for no other
pub own_demand : (order article units a place : ℕ) → one_demand order article units a place ≢ 0 → place ≡ order
own_demand order article units a place some = elim (cases_eq place order) [
  | inl same ↦ same
  | inr other ↦ absurd (some (cond-false ((a == article) && (place == order)) units 0 (and_right _ _ (ne_eqb place order other))))
]

below_again : (lost : HeldUnits) (quantity orders : ℕ) → lost.order < orders → WantsBelow (want_again lost quantity ∷ []) orders
below_again lost quantity orders below article place past =
    wanted_for_one lost quantity article place
    ∙ cond-false ((article == lost.article) && (place == lost.order)) quantity 0 (and_right _ _ (ne_eqb place lost.order (λ e. absurd (omega arith))))

-- nothing is short where no article is named
pub none_is_short : (rows : List Row) (wants : List Want) (except : Option ℕ) (found : Option Short) → IsShort rows wants except found → false ≡ is_some found
    → IsShort rows wants except None
none_is_short rows wants except None is none = is
none_is_short rows wants except (Some short) is none = absurd (cc)

-- what was held for the one want and listed is held elsewhere
pub held_elsewhere : (number quantity units : ℕ) (lost : HeldUnits) (old new : Book) (room sheet : Content) → units ≡ quantity
    → IsShort old.rows (want_again lost units ∷ []) (Some lost.row) None
    → IsAllotted number (want_again lost units ∷ []) (Some lost.row) old new → HasOverlaps old.rows (want_again lost units ∷ []) (Some lost.row) room sheet
    → IsHeldElsewhere number lost quantity old new sheet
held_elsewhere number quantity units lost old new room sheet same enough allotted overlaps =
    let demand : wanted_for (want_again lost units ∷ []) ≡ one_demand lost.order lost.article quantity =
    demand_again lost units ∙ ap (one_demand lost.order lost.article) same in
    record {
      covered = omega (arith, enough lost.article, wanted_of_own (want_again lost units));
      rows = λ orders below. allotted.rows orders (below_again lost units orders below)
          ∙ ap (λ (d : ℕ → ℕ → ℕ). change_rows (λ row. hold_units (sum_below orders (λ order. share d old.rows (Some lost.row) order row))) 0 old.rows) demand;
      held = λ order row. allotted.held order row ∙ ap (λ (d : ℕ → ℕ → ℕ). held_for old number order row + share d old.rows (Some lost.row) order row) demand;
      others = allotted.others;
      listed = λ orders below. overlaps.holds orders (below_again lost units orders below)
          ∙ ap (λ (d : ℕ → ℕ → ℕ). held_list orders (length old.rows) (share d old.rows (Some lost.row))) demand;
    }
