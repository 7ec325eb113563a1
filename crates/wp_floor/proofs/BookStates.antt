-- The state of a book and waves: as a refusal leaves it, and once stock was held for a wave or was short.
use Rattle.std.proofs.Common.{◌≡◌, ◌∙◌, refl, sym, ap, ap₂, ℕ, zero, suc, ◌==◌, inl, inr, List, [], ◌∷◌, length, Some, None, slice_get, slice_set, eq-eqb}
use Rattle.std.proofs.Common.{ne_eqb}
use Rattle.std.proofs.Math.Path.{fun_ext}
use Rattle.std.proofs.lemmas.Bool.{cases_eq, cond-false, cond-true}
use Rattle.std.proofs.lemmas.Option.{same_Some}
use Rattle.std.specs.Option.{option_map_or}
use Rattle.wp_book.specs.Calls.{KeepsOthers}
use Rattle.wp_book.specs.Room.{Content}
use Rattle.wp_model.specs.Book.{Book, held_for}
use Rattle.wp_model.specs.Change.{hold, put_wave, with_held}
use Rattle.wp_model.specs.Demand.{demand_at, free_units, wave_demand}
use Rattle.wp_model.specs.Opening.{IsOpening, Opening, article_name}
use Rattle.wp_model.specs.State.{State, Wave}
use Rattle.wp_model.specs.Step.{Stepped, hold_for, refuse_short}
use Rattle.wp_model.specs.declared.reply.Reply.{Reply}
use Rattle.wp_model.specs.declared.reply.Reply.TheVariants as reply
use Rattle.wp_model.specs.declared.reply.WaveState.{WaveState}
use Rattle.wp_model.specs.declared.row.Row.{Row}
use Rattle.wp_allot.specs.declared.want.Want.{Want}
use Rattle.wp_floor.specs.Floor.{AreWantsOf, HasAnswered, IsAt, state_at, wave_of}
use Rattle.wp_floor.specs.WaveStock.{IsHeld, IsRefusedShort}
use Rattle.wp_floor.specs.declared.waves.KeptWave.{KeptWave}
use Rattle.wp_floor.proofs.WaveDemand.{demand_is, enough_for, short_is, wanted_is, wants_below}

-- an element that is put in its own place
pub set_same : {X : Type 0} (xs : List X) (i : ℕ) (x : X) → slice_get xs i ≡ Some x → slice_set xs i x ≡ xs
set_same [] i x there = refl
set_same (y ∷ ys) zero x there = ap (λ z. z ∷ ys) (same_Some x y (sym there))
set_same (y ∷ ys) (suc i) x there = ap (λ zs. y ∷ zs) (set_same ys i x there)

-- a command that is refused leaves the book and the waves as they are
pub refused : (opening : Opening) (book : Book) (waves : List Wave) (number : ℕ) (kept : KeptWave) (stepped : Stepped) (answer : Reply)
    → IsAt opening book waves number kept
    → stepped ≡ record { reply = answer; state = state_at book waves } → HasAnswered opening stepped book book waves number kept kept answer
refused opening book waves number kept stepped answer at is = record {
  is = is ∙ ap (λ (ws : List Wave). let s : Stepped = record { reply = answer; state = state_at book ws } in s)
      (sym (set_same waves number (wave_of kept) at.there));
  keeps = at.keeps;
  others = λ w o r other. refl;
  rows = refl;
  name = refl;
  orders = refl;
}

-- a state by its parts
abbrev pub state_of_parts : List Wave → List Row → (ℕ → ℕ → ℕ → ℕ) → State
state_of_parts waves rows held = record { rows = rows; waves = waves; held = held }

-- states of the same waves and rows are the same where the same units are held in them
pub state_is : (waves : List Wave) (rows rows' : List Row) (held held' : ℕ → ℕ → ℕ → ℕ) → rows ≡ rows' → ((w o r : ℕ) → held w o r ≡ held' w o r)
    → state_of_parts waves rows held ≡ state_of_parts waves rows' held'
state_is waves rows rows' held held' same each =
    ap₂ (state_of_parts waves) same (fun_ext (λ w. fun_ext (λ o. fun_ext (λ r. each w o r))))

-- what a book holds once one wave holds something else and the others what they held
pub with_held_is : (old new : Book) (waves : List Wave) (number : ℕ) (held : ℕ → ℕ → ℕ) → KeepsOthers number old new
    → ((o r : ℕ) → held_for new number o r ≡ held o r)
    → (w o r : ℕ) → held_for new w o r ≡ with_held (state_at old waves) number held w o r
with_held_is old new waves number held others own w o r = elim (cases_eq w number) [
  | inl same ↦ ap (λ v. held_for new v o r) same ∙ (own o r ∙ sym (cond-true (w == number) (held o r) (held_for old w o r) (eq-eqb w number same)))
  | inr other ↦ others w o r other ∙ sym (cond-false (w == number) (held o r) (held_for old w o r) (ne_eqb w number other))
]

-- the state once stock was held for a wave is the one that the definition makes
pub held_state : (opening : Opening) (old new : Book) (waves : List Wave) (number : ℕ) (orders : List (List ℕ)) (wants : List Want) (w : Wave)
    (room sheet : Content)
    → AreWantsOf opening orders wants → IsHeld number wants old new room sheet
    → put_wave number w (hold (demand_at opening orders) None number (length orders) (state_at old waves)) ≡ state_at new (slice_set waves number w)
held_state opening old new waves number orders wants w room sheet are held =
    ap (λ (demand : ℕ → ℕ → ℕ). put_wave number w (hold demand None number (length orders) (state_at old waves)))
    (sym (demand_is opening orders wants are))
    ∙ sym (state_is (slice_set waves number w) new.rows _ (held_for new) _
    (held.allotted.rows (length orders) (wants_below opening orders wants are))
    (with_held_is old new waves number _ held.allotted.others held.allotted.held))

-- where stock was held for a wave, the command that wanted it is done
pub hold_for_done : (opening : Opening) (old new : Book) (waves : List Wave) (number : ℕ) (kept : KeptWave) (wants : List Want) (next : WaveState)
    (done : Reply) (room sheet : Content)
    → AreWantsOf opening kept.orders wants → IsHeld number wants old new room sheet
    → hold_for opening (state_at old waves) next done number
    (wave_of kept) ≡ record { reply = done; state = state_at new (slice_set waves number (record (wave_of kept) { state = next })) }
hold_for_done opening old new waves number kept wants next done room sheet are held =
    let w : Wave = record (wave_of kept) { state = next } in
    let stepped : Stepped = record {
      reply = done;
      state = put_wave number w
          (hold (demand_at opening kept.orders) None number (length kept.orders) (state_at old waves));
    } in
    ap (λ found. option_map_or (refuse_short opening (state_at old waves) (wave_of kept)) found stepped)
    (enough_for opening old.rows kept.orders wants are held.enough)
    ∙ ap (λ (state : State). let s : Stepped = record { reply = done; state = state } in s)
    (held_state opening old new waves number kept.orders wants w room sheet are held)

-- and where stock was short, the command is refused with the first short article
pub hold_for_short : (opening : Opening) (old new : Book) (waves : List Wave) (number : ℕ) (kept : KeptWave) (wants : List Want) (next : WaveState)
    (done answer : Reply)
    → IsOpening opening → AreWantsOf opening kept.orders wants → slice_get waves number ≡ Some (wave_of kept)
    → IsRefusedShort opening wants old new answer
    → hold_for opening (state_at old waves) next done number
    (wave_of kept) ≡ record { reply = answer; state = state_at new (slice_set waves number (wave_of kept)) }
hold_for_short opening old new waves number kept wants next done answer is are there refused =
    let state = state_at old waves in
    let w : Wave = record (wave_of kept) { state = next } in
    let stepped : Stepped = record { reply = done; state = put_wave number w (hold (demand_at opening kept.orders) None number (length kept.orders) state) } in
    let free = sym refused.first.free in
    let named : reply.Short (article_name opening refused.short.article) (wave_demand opening kept.orders refused.short.article)
    (free_units old.rows refused.short.article None) ≡ answer
    = ap₂ (λ m n. reply.Short (article_name opening refused.short.article) m n)
    (sym (wanted_is opening kept.orders wants refused.short.article are) ∙ sym refused.first.wanted) free ∙ sym refused.names in
    ap (λ found. option_map_or (refuse_short opening state (wave_of kept)) found stepped)
    (short_is opening old.rows kept.orders wants refused.short is are refused.first)
    ∙ ap₂ (λ (r : Reply) (s : State). let t : Stepped = record { reply = r; state = s } in t) named
    (ap (λ (book : Book). state_at book waves) (sym refused.same) ∙ ap (state_at new) (sym (set_same waves number (wave_of kept) there)))
