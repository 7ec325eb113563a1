-- Units that are picked or written off, and waves that are done then.
use Rattle.std.proofs.Common.{◌≡◌, ◌≢◌, ◌∙◌, refl, sym, ap, subst, ℕ, ◌<◌, ◌≤◌, ◌==◌, true, inl, inr, ◌⊎◌, List, length, Some, slice_get, slice_set, arith}
use Rattle.std.proofs.Common.{eq-eqb, ne_eqb}
use Rattle.std.proofs.lemmas.Bool.{cases_eq, cond-false, cond-true}
use Rattle.std.proofs.lemmas.Option.{slice_get_within}
use Rattle.wp_book.specs.Calls.{HasTaken, HoldsNone}
use Rattle.wp_model.proofs.Held.{orders_in-at}
use Rattle.wp_model.proofs.Moves.{take_moves}
use Rattle.wp_model.specs.StockMoves.{IsMoved}
use Rattle.wp_model.proofs.Rows.{length-change_rows}
use Rattle.wp_model.proofs.Sums.{sum-zero, term-le-sum}
use Rattle.wp_model.proofs.Waves.{stock_of}
use Rattle.wp_model.specs.Book.{Book, held_for}
use Rattle.wp_model.specs.Change.{put_wave, settle, take}
use Rattle.wp_model.specs.Opening.{Opening}
use Rattle.wp_model.specs.State.{State, Wave, wave_held, wave_held_at}
use Rattle.wp_model.specs.Step.{Stepped, pick}
use Rattle.wp_model.specs.declared.reply.Reply.TheVariants as reply
use Rattle.wp_model.specs.declared.reply.WaveState.TheVariants as wave
use Rattle.wp_floor.specs.Floor.{HasAnswered, HasPapers, IsAt, IsKeptWave, IsNumbered, state_at, state_in, wave_of}
use Rattle.wp_floor.specs.HeldUnits.{held_of}
use Rattle.wp_floor.specs.declared.held.HeldUnits.{HeldUnits}
use Rattle.wp_floor.specs.declared.waves.KeptWave.{KeptWave}
use Rattle.wp_floor.specs.declared.waves.Stage.{Stage}
use Rattle.wp_floor.specs.declared.waves.Stage.TheVariants as stage
use Rattle.wp_floor.proofs.BookStates.{state_is, with_held_is}

-- what a wave holds is held for its orders, at rows
abbrev pub IsBounded : Book → ℕ → ℕ → Type 0
IsBounded book number orders = (order row : ℕ) → held_for book number order row ≢ 0 → (order < orders) × (row < length book.rows)

-- a wave that holds nothing in all holds nothing anywhere
pub none_held : (book : Book) (waves : List Wave) (number orders : ℕ) → IsBounded book number orders → wave_held (state_at book waves) number orders ≡ 0
    → HoldsNone book number
none_held book waves number orders bounded none order row = elim (cases_eq (held_for book number order row) 0) [
  | inl nothing ↦ nothing
  | inr some ↦
      let place = bounded order row some in
      let at_row = term-le-sum orders (λ o. held_for book number o row) order place.0 in
      let in_all = term-le-sum (length book.rows) (wave_held_at (state_at book waves) number orders) row place.1 in
      omega arith
]

-- and a wave that holds nothing anywhere holds nothing in all
pub all_none : (book : Book) (waves : List Wave) (number orders : ℕ) → HoldsNone book number → wave_held (state_at book waves) number orders ≡ 0
all_none book waves number orders none = sum-zero (length book.rows) _ (λ row within. sum-zero orders _ (λ order below. none order row))

-- how a wave is left
pub record IsLeft (book : Book) (number : ℕ) (was left : KeptWave) : Type 0 where
  pub none : HoldsNone book number → left ≡ record was { stage = stage.Done }
  pub some : (HoldsNone book number → ⊥) → left ≡ was

left_cases : (book : Book) (waves : List Wave) (number : ℕ) (was left : KeptWave) → IsBounded book number (length was.orders) → IsLeft book number was left
    → ((wave_held (state_at book waves) number (length was.orders) ≡ 0) × (left ≡ record was { stage = stage.Done }))
    ⊎ ((wave_held (state_at book waves) number (length was.orders) ≢ 0) × (left ≡ was))
left_cases book waves number was left bounded is = elim (cases_eq (wave_held (state_at book waves) number (length was.orders)) 0) [
  | inl none ↦ inl (none, is.none (none_held book waves number (length was.orders) bounded none))
  | inr some ↦ inr (some, is.some (λ none. some (all_none book waves number (length was.orders) none)))
]

-- a wave is settled as it is left, and kept as it should be
pub record IsSettled (opening : Opening) (book : Book) (waves : List Wave) (number : ℕ) (was left : KeptWave) : Type 0 where
  pub is : settle number (wave_of was) (state_at book waves) ≡ state_at book (slice_set waves number (wave_of left))
  pub keeps : IsKeptWave opening book number left
  pub name : left.name ≡ was.name
  pub orders : left.orders ≡ was.orders

settled_done : (opening : Opening) (book : Book) (waves : List Wave) (number : ℕ) (was : KeptWave) → IsNumbered opening was
    → state_in was.stage ≡ wave.Released → wave_held (state_at book waves) number (length was.orders) ≡ 0
    → IsSettled opening book waves number was (record was { stage = stage.Done })
settled_done opening book waves number was numbered released none =
    let held = wave_held (state_at book waves) number (length was.orders) in
    record {
      is = ap (λ (w : Wave). put_wave number w (state_at book waves))
          (cond-true (held == 0) (record (wave_of was) { state = wave.Done }) (wave_of was) (eq-eqb held 0 none));
      keeps = record { numbered = numbered; papers = tt };
      name = refl;
      orders = refl;
    }

-- a released wave needs no papers
no_papers : (opening : Opening) (book : Book) (number : ℕ) (kept : KeptWave) (s : Stage) → state_in s ≡ wave.Released
    → HasPapers opening s book number kept
no_papers opening book number kept (stage.Submitted needs) is = absurd (cc)
no_papers opening book number kept (stage.Allotted sheet) is = absurd (cc)
no_papers opening book number kept stage.Released is = tt
no_papers opening book number kept stage.Cancelled is = tt
no_papers opening book number kept stage.Done is = tt

settled_same : (opening : Opening) (book : Book) (waves : List Wave) (number : ℕ) (was : KeptWave) → IsNumbered opening was
    → state_in was.stage ≡ wave.Released → wave_held (state_at book waves) number (length was.orders) ≢ 0
    → IsSettled opening book waves number was was
settled_same opening book waves number was numbered released some =
    let held = wave_held (state_at book waves) number (length was.orders) in
    record {
      is = ap (λ (w : Wave). put_wave number w (state_at book waves))
          (cond-false (held == 0) (record (wave_of was) { state = wave.Done }) (wave_of was) (ne_eqb held 0 some));
      keeps = record { numbered = numbered; papers = no_papers opening book number was was.stage released };
      name = refl;
      orders = refl;
    }

-- a released wave that is done where it holds nothing, and else as it was, is settled
pub settled : (opening : Opening) (book : Book) (waves : List Wave) (number : ℕ) (was left : KeptWave) → IsNumbered opening was
    → state_in was.stage ≡ wave.Released → IsBounded book number (length was.orders) → IsLeft book number was left
    → IsSettled opening book waves number was left
settled opening book waves number was left numbered released bounded is = elim (left_cases book waves number was left bounded is) [
  | inl done ↦ subst (IsSettled opening book waves number was) (sym done.1) (settled_done opening book waves number was numbered released done.0)
  | inr same ↦ subst (IsSettled opening book waves number was) (sym same.1) (settled_same opening book waves number was numbered released same.0)
]

-- units that a released wave holds for one of its orders at a row were taken
pub record IsTaking (opening : Opening) (old new : Book) (waves : List Wave) (number : ℕ) (kept : KeptWave) (order row units : ℕ) : Type 0 where
  pub at : IsAt opening old waves number kept
  pub released : state_in kept.stage ≡ wave.Released
  pub within : order < length kept.orders
  pub enough : units ≤ held_for old number order row
  pub taken : HasTaken number order row units old new

-- the state once units were taken is the one that the definition makes
pub taken_state : (opening : Opening) (old new : Book) (waves : List Wave) (number : ℕ) (kept : KeptWave) (order row units : ℕ)
    → IsTaking opening old new waves number kept order row units
    → take number order row units (state_at old waves) ≡ state_at new waves
taken_state opening old new waves number kept order row units is =
    sym (state_is waves new.rows _ (held_for new) _ is.taken.rows (with_held_is old new waves number _ is.taken.others is.taken.held))

-- and it is a state of sound stock in which no other wave holds anything else
pub taking_moves : (opening : Opening) (old new : Book) (waves : List Wave) (number : ℕ) (kept : KeptWave) (order row units : ℕ)
    → IsTaking opening old new waves number kept order row units
    → IsMoved number (state_at old waves) (state_at new waves)
taking_moves opening old new waves number kept order row units is =
    let state = state_at old waves in
    subst (IsMoved number state) (taken_state opening old new waves number kept order row units is)
    (take_moves number order row units (length kept.orders) state (slice_get_within waves number (wave_of kept) is.at.there)
    (orders_in-at state number (wave_of kept) is.at.there) is.within is.enough (stock_of opening state is.at.sound))

-- what is held after moves of a wave's units is bounded
pub bounded_after : (old new : Book) (waves : List Wave) (number : ℕ) (kept : KeptWave) → slice_get waves number ≡ Some (wave_of kept)
    → IsMoved number (state_at old waves) (state_at new waves) → IsBounded new number (length kept.orders)
bounded_after old new waves number kept there moved order row some =
    let place = moved.stock.nowhere_else number order row some in
    (omega (arith, place.0, orders_in-at (state_at new waves) number (wave_of kept) there), place.1)

-- units that were picked
pub picked : (opening : Opening) (old new : Book) (waves : List Wave) (number : ℕ) (kept left : KeptWave) (held : HeldUnits) (units : ℕ)
    → IsTaking opening old new waves number kept held.order held.row units
    → IsLeft new number (record kept { picked = true }) left
    → HasAnswered opening (pick (state_at old waves) number (wave_of kept) units (held_of held)) old new waves number kept left reply.Picked
picked opening old new waves number kept left held units is leaves =
    let was : KeptWave = record kept { picked = true } in
    let bounded = bounded_after old new waves number kept is.at.there (taking_moves opening old new waves number kept held.order held.row units is) in
    let settles = settled opening new waves number was left is.at.keeps.numbered is.released bounded leaves in
    record {
      is = ap (λ (s : State). let t : Stepped = record { reply = reply.Picked; state = settle number (wave_of was) s } in t)
          (taken_state opening old new waves number kept held.order held.row units is)
          ∙ ap (λ (s : State). let t : Stepped = record { reply = reply.Picked; state = s } in t) settles.is;
      keeps = settles.keeps;
      others = is.taken.others;
      rows = ap length is.taken.rows ∙ length-change_rows _ old.rows;
      name = settles.name;
      orders = settles.orders;
    }
