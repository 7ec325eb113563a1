-- A wave that is given up, and gives back all that it holds.
use Rattle.std.proofs.Common.{◌≡◌, ◌∙◌, refl, sym, ap, ℕ, ◌+◌, ◌≤◌, ◌==◌, ◌&&◌, Bool, true, false, inl, inr, List, [], ◌∷◌, length, slice_set, if◌then◌else◌}
use Rattle.std.proofs.Common.{arith, eq-eqb, ne_eqb}
use Rattle.std.proofs.lemmas.Bool.{cases_eq, cases_lt, cond-false}
use Rattle.std.proofs.lemmas.List.Sums.{sum_by-cons}
use Rattle.std.specs.List.{sum_by}
use Rattle.wp_book.specs.Calls.{HasGivenBack}
use Rattle.wp_book.proofs.HoldSums.{freed_same}
use Rattle.wp_model.proofs.Held.{orders_in-at}
use Rattle.wp_model.proofs.Rows.{length-change_rows}
use Rattle.wp_model.proofs.Sums.{sum-add, sum-agree, sum-one_changed, sum-zero}
use Rattle.wp_model.specs.Book.{Book, Holding, held_for, held_for_wave, is_for, is_for_wave, units_where}
use Rattle.wp_model.specs.Opening.{Opening}
use Rattle.wp_model.specs.State.{State, Wave}
use Rattle.wp_model.specs.Step.{Stepped, give_up}
use Rattle.wp_model.specs.Sums.{sum_below}
use Rattle.wp_model.specs.declared.reply.Reply.TheVariants as reply
use Rattle.wp_model.specs.declared.reply.WaveState.TheVariants as wave
use Rattle.wp_floor.specs.Floor.{HasAnswered, IsAt, state_at, wave_of}
use Rattle.wp_floor.specs.declared.waves.KeptWave.{KeptWave}
use Rattle.wp_floor.specs.declared.waves.Stage.TheVariants as stage
use Rattle.wp_floor.proofs.BookStates.{state_is, with_held_is}

-- one holding, counted at its order
one_holding : (h : Holding) (wave row bound : ℕ) → (bound ≤ h.order → units_where (is_for_wave wave row) h ≡ 0)
    → sum_below bound (λ order. units_where (is_for wave order row) h) ≡ units_where (is_for_wave wave row) h
one_holding h wave row bound past = elim (cases_lt h.order bound) [
  | inl within ↦
      let others = sum-one_changed bound (λ order. units_where (is_for wave order row) h) (λ order. 0) h.order within (λ k other.
      cond-false ((h.wave == wave) && ((h.order == k) && (h.row == row))) h.quantity 0
      (middle (h.wave == wave) (h.order == k) (h.row == row) (ne_eqb h.order k (λ e. other (sym e))))) in
      let own = at_own (h.wave == wave) (h.order == h.order) (h.row == row) h.quantity (eq-eqb h.order h.order refl) in
      omega (arith, others, own, sum-zero bound (λ order. 0) (λ k below. refl))
  | inr beyond ↦
      let none = past beyond in
      sum-zero bound (λ order. units_where (is_for wave order row) h) (λ k below.
      cond-false ((h.wave == wave) && ((h.order == k) && (h.row == row))) h.quantity 0
      (middle (h.wave == wave) (h.order == k) (h.row == row) (ne_eqb h.order k (λ e. absurd (omega arith))))) ∙ sym none
]
  where
    middle : (a b c : Bool) → b ≡ false → (a && (b && c)) ≡ false
    middle true b c e = ap (λ t. t && c) e
    middle false b c e = refl

    at_own : (a b c : Bool) (q : ℕ) → b ≡ true → (if a && (b && c) then q else 0) ≡ (if a && c then q else 0)
    at_own true b c q e = ap (λ t. if t && c then q else 0) e
    at_own false b c q e = refl

-- what a wave holds at a row, as the sum of what it holds for its orders
all_orders : (holdings : List Holding) (wave row bound : ℕ) → ((order : ℕ) → bound ≤ order → sum_by (units_where (is_for wave order row)) holdings ≡ 0)
    → sum_by (units_where (is_for_wave wave row)) holdings ≡ sum_below bound (λ order. sum_by (units_where (is_for wave order row)) holdings)
all_orders [] wave row bound past = sym (sum-zero bound (λ order. 0) (λ k within. refl))
all_orders (h ∷ hs) wave row bound past =
    let parts : (o : ℕ) → sum_by (units_where (is_for wave o row)) (h ∷ hs) ≡ units_where (is_for wave o row) h + sum_by
    (units_where (is_for wave o row)) hs = λ o. sum_by-cons (units_where (is_for wave o row)) h hs in
    let rest = all_orders hs wave row bound (λ o beyond. omega (arith, past o beyond, parts o)) in
    let here = one_holding h wave row bound (λ beyond. own beyond) in
    omega (
      arith,
      sum_by-cons (units_where (is_for_wave wave row)) h hs,
      sum-agree bound (λ o. sum_by (units_where (is_for wave o row)) (h ∷ hs))
          (λ o. units_where (is_for wave o row) h + sum_by (units_where (is_for wave o row)) hs) (λ o within. parts o),
      sum-add bound (λ o. units_where (is_for wave o row) h) (λ o. sum_by (units_where (is_for wave o row)) hs),
      here,
      rest,
    )
  where
    own_if : (a b c : Bool) (q : ℕ) → b ≡ true → (if a && (b && c) then q else 0) ≡ 0 → (if a && c then q else 0) ≡ 0
    own_if true b c q e none = sym (ap (λ t. if t && c then q else 0) e) ∙ none
    own_if false b c q e none = refl

    own : bound ≤ h.order → units_where (is_for_wave wave row) h ≡ 0
    own beyond =
        own_if (h.wave == wave) (h.order == h.order) (h.row == row) h.quantity (eq-eqb h.order h.order refl)
        (omega (arith, past h.order beyond, sum_by-cons (units_where (is_for wave h.order row)) h hs))

-- what a wave holds at a row is the sum of what it holds there for its orders
pub wave_total : (book : Book) (wave row bound : ℕ) → ((order : ℕ) → bound ≤ order → held_for book wave order row ≡ 0)
    → held_for_wave book wave row ≡ sum_below bound (λ order. held_for book wave order row)
wave_total book wave row bound past = all_orders book.holdings wave row bound past

-- past its orders a wave of a sound state holds nothing
pub none_past : (opening : Opening) (book : Book) (waves : List Wave) (number : ℕ) (kept : KeptWave) → IsAt opening book waves number kept → (order row : ℕ)
    → length kept.orders ≤ order → held_for book number order row ≡ 0
none_past opening book waves number kept at order row past = elim (cases_eq (held_for book number order row) 0) [
  | inl none ↦ none
  | inr some ↦ absurd (omega (arith, (at.sound.nowhere_else number order row some).0, orders_in-at (state_at book waves) number (wave_of kept) at.there))
]

-- a wave that is given up
pub given_up : (opening : Opening) (old new : Book) (waves : List Wave) (number : ℕ) (kept : KeptWave) → IsAt opening old waves number kept
    → HasGivenBack number old new
    → HasAnswered opening (give_up (state_at old waves) number (wave_of kept)) old new waves number kept
    (record kept { stage = stage.Cancelled }) reply.Cancelled
given_up opening old new waves number kept at back =
    let w : Wave = record (wave_of kept) { state = wave.Cancelled } in
    let rows = back.rows ∙ freed_same _ _ old.rows (λ row. wave_total old number row (length kept.orders)
    (λ order past. none_past opening old waves number kept at order row past)) in
    record {
      is = ap (λ (s : State). let t : Stepped = record { reply = reply.Cancelled; state = s } in t)
          (sym (state_is (slice_set waves number w) new.rows _ (held_for new) _ rows (with_held_is old new waves number (λ o r. 0) back.others back.held)));
      keeps = record { numbered = at.keeps.numbered; papers = tt };
      others = back.others;
      rows = ap length back.rows ∙ length-change_rows _ old.rows;
      name = refl;
      orders = refl;
    }
