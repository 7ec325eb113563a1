-- Stock that is held for a wave, and the list of it.
use Rattle.std.proofs.Common.{◌≡◌, ◌∙◌, refl, sym, ap, ap₂, subst, ℕ, ◌+◌, ◌<◌, ◌==◌, suc, inl, inr, List, [], ◌∷◌, length, map, if◌then◌else◌, Option, Some}
use Rattle.std.proofs.Common.{None, option_map}
use Rattle.std.proofs.Common.{slice_get, arith, ne_eqb}
use Rattle.std.proofs.Math.Path.{fun_ext}
use Rattle.std.proofs.lemmas.Bool.{cases_eq, cond-false}
use Rattle.std.proofs.lemmas.List.Sums.{sum_by-cons}
use Rattle.std.proofs.lemmas.Option.{same_Some, slice_get-map, slice_get_cases}
use Rattle.wp_allot.specs.Wants.{IsRoomFor, holds_at_most, is_wanted, units_of, wanted_for, wanted_of, wanted_places, wanted_rows}
use Rattle.wp_allot.specs.declared.want.Want.{Want}
use Rattle.wp_book.specs.Calls.{HoldsNone}
use Rattle.wp_book.specs.Room.{Content}
use Rattle.wp_model.proofs.Elements.{at_some}
use Rattle.wp_model.proofs.Held.{orders_in-at}
use Rattle.wp_model.proofs.Rows.{length-change_rows}
use Rattle.wp_model.specs.Book.{Book, held_for, held_list}
use Rattle.wp_model.specs.Change.{change_rows, share}
use Rattle.wp_model.specs.Opening.{Opening}
use Rattle.wp_model.specs.Sound.{HoldsAs, IsSoundWave}
use Rattle.wp_model.specs.State.{State, Wave, wave_held}
use Rattle.wp_model.specs.Step.{Stepped, allot, hold_for, refuse, release}
use Rattle.wp_model.specs.declared.reply.Reply.{Reply}
use Rattle.wp_model.specs.declared.reply.Reply.TheVariants as reply
use Rattle.wp_model.specs.declared.reply.WaveState.{WaveState}
use Rattle.wp_model.specs.declared.reply.WaveState.TheVariants as wave
use Rattle.wp_model.specs.declared.location.Location.{Location}
use Rattle.wp_model.specs.declared.row.Row.{Row}
use Rattle.wp_model.specs.declared.row.StockRow.{StockRow}
use Rattle.wp_floor.specs.Floor.{AreNeedsOf, AreSameRows, AreWantsOf, HasAnswered, HasPapers, HaveSpace, IsAt, IsFreshRoom, IsKeptWave, row_place, state_at}
use Rattle.wp_floor.specs.Floor.{state_in, stock_row_place, wave_of}
use Rattle.wp_floor.specs.MissingUnits.{HaveRoomsAt, HaveSpaceAt, want_of}
use Rattle.wp_floor.specs.ReleasedWaves.{HasReleased}
use Rattle.wp_floor.specs.WaveStock.{IsHeld, IsRefusedShort}
use Rattle.wp_floor.specs.declared.holding.Rooms.{Rooms}
use Rattle.wp_floor.specs.declared.waves.KeptWave.{KeptWave}
use Rattle.wp_floor.specs.declared.waves.Needs.{Needs}
use Rattle.wp_floor.specs.declared.waves.HeldOrders.{HeldOrders}
use Rattle.wp_floor.specs.declared.waves.Stage.{Stage}
use Rattle.wp_floor.specs.declared.waves.Stage.TheVariants as stage
use Rattle.wp_floor.proofs.BookStates.{hold_for_done, hold_for_short, refused}
use Rattle.wp_floor.proofs.Floors.{is_opening}
use Rattle.wp_floor.proofs.TakenUnits.{none_held}
use Rattle.wp_floor.proofs.WaveDemand.{wants_below}

-- a wave that is allotted from another stage than submitted
pub allot_wrong : (opening : Opening) (state : State) (number : ℕ) (w : Wave) (s : Stage) → ((needs : Needs) → s ≡ stage.Submitted needs → ⊥)
    → allot opening state number w (state_in s) ≡ refuse state (reply.WrongState (state_in s))
allot_wrong opening state number w (stage.Submitted needs) other = absurd (other needs refl)
allot_wrong opening state number w (stage.Allotted sheet) other = refl
allot_wrong opening state number w stage.Released other = refl
allot_wrong opening state number w stage.Cancelled other = refl
allot_wrong opening state number w stage.Done other = refl

-- a wave that is refused and put back at its stage is as it was
pub refused_at : (opening : Opening) (book : Book) (waves : List Wave) (number : ℕ) (kept : KeptWave) (s : Stage) (stepped : Stepped) (answer : Reply)
    → IsAt opening book waves number kept → s ≡ kept.stage → stepped ≡ record { reply = answer; state = state_at book waves }
    → HasAnswered opening stepped book book waves number kept (record kept { stage = s }) answer
refused_at opening book waves number kept s stepped answer at same is =
    subst (λ (t : Stage). HasAnswered opening stepped book book waves number kept (record kept { stage = t }) answer) (sym same)
    (refused opening book waves number kept stepped answer at is)

-- a wave that was submitted holds nothing
pub holds_nothing : (opening : Opening) (book : Book) (waves : List Wave) (number : ℕ) (kept : KeptWave) → IsAt opening book waves number kept
    → state_in kept.stage ≡ wave.Submitted → HoldsNone book number
holds_nothing opening book waves number kept at submitted =
    let sound : IsSoundWave opening (state_at book waves) number (wave_of kept) =
    at_some (slice_get waves number) (IsSoundWave opening (state_at book waves) number) (wave_of kept) at.there (at.sound.waves number) in
    let none : wave_held (state_at book waves) number (length kept.orders) ≡ 0 =
    subst (λ (s : WaveState). HoldsAs s opening (state_at book waves) number (wave_of kept)) submitted sound.holds in
    none_held book waves number (length kept.orders) (λ order row some.
    let place = at.sound.nowhere_else number order row some in
    (omega (arith, place.0, orders_in-at (state_at book waves) number (wave_of kept) at.there), place.1)) none

-- and once stock was held for it, all that it holds is listed
pub is_listed : (opening : Opening) (old new : Book) (waves : List Wave) (number : ℕ) (kept : KeptWave) (wants : List Want) (room sheet : Content)
    → IsAt opening old waves number kept → state_in kept.stage ≡ wave.Submitted → AreWantsOf opening kept.orders wants
    → IsHeld number wants old new room sheet → sheet.holds ≡ held_list (length kept.orders) (length new.rows) (held_for new number)
is_listed opening old new waves number kept wants room sheet at submitted are held =
    let orders = length kept.orders in
    let below = wants_below opening kept.orders wants are in
    let rows : length new.rows ≡ length old.rows = ap length (held.allotted.rows orders below) ∙ length-change_rows _ old.rows in
    let none = holds_nothing opening old waves number kept at submitted in
    let each : (o r : ℕ) → share (wanted_for wants) old.rows None o r ≡ held_for new number o r =
    λ o r. omega (arith, none o r, held.allotted.held o r) in
    held.listed.holds orders below ∙ ap₂ (λ n h. held_list orders n h) (sym rows) (fun_ext (λ o. fun_ext (λ r. each o r)))

-- what a wave needs once it is submitted is what its orders need
pub needs_are : (opening : Opening) (book : Book) (number : ℕ) (kept : KeptWave) (needs : Needs) → HasPapers opening kept.stage book number kept
    → kept.stage ≡ stage.Submitted needs → AreNeedsOf opening kept.orders needs
needs_are opening book number kept needs papers is = subst (λ (s : Stage). HasPapers opening s book number kept) is papers

-- stock was held for a wave, and it has the sheet of that
pub record HasSheet (number : ℕ) (old new : Book) (kept : KeptWave) (needs : Needs) (sheet : HeldOrders) : Type 0 where
  pub stage : kept.stage ≡ stage.Submitted needs
  pub held : IsHeld number needs.wants.items old new needs.rooms.sheet sheet.room
  pub orders : sheet.orders ≡ needs.orders

-- a wave that is allotted then
pub allotted : (opening : Opening) (old new : Book) (waves : List Wave) (number : ℕ) (kept : KeptWave) (needs : Needs) (sheet : HeldOrders)
    → IsAt opening old waves number kept → HasSheet number old new kept needs sheet
    → HasAnswered opening (allot opening (state_at old waves) number (wave_of kept) (state_in kept.stage)) old new waves number kept
    (record kept { stage = stage.Allotted sheet }) reply.Allotted
allotted opening old new waves number kept needs sheet at has =
    let submitted : state_in kept.stage ≡ wave.Submitted = ap state_in has.stage in
    let are = needs_are opening old number kept needs at.keeps.papers has.stage in
    let below = wants_below opening kept.orders needs.wants.items are.wants in
    record {
      is = ap (allot opening (state_at old waves) number (wave_of kept)) submitted
          ∙ hold_for_done opening old new waves number kept needs.wants.items wave.Allotted reply.Allotted needs.rooms.sheet sheet.room are.wants has.held;
      keeps = record {
        numbered = at.keeps.numbered;
        papers = (
          has.orders ∙ are.copied,
          is_listed opening old new waves number kept needs.wants.items needs.rooms.sheet sheet.room at submitted are.wants has.held,
        );
      };
      others = has.held.allotted.others;
      rows = ap length (has.held.allotted.rows (length kept.orders) below) ∙ length-change_rows _ old.rows;
      name = refl;
      orders = refl;
    }

-- where stock is short, the command is refused, and the book and the wave stay as they are
short : (opening : Opening) (old new : Book) (waves : List Wave) (number : ℕ) (kept : KeptWave) (wants : List Want) (next : WaveState) (done answer : Reply)
    (stepped : Stepped) → IsAt opening old waves number kept → AreWantsOf opening kept.orders wants
    → stepped ≡ hold_for opening (state_at old waves) next done number (wave_of kept) → IsRefusedShort opening wants old new answer
    → HasAnswered opening stepped old new waves number kept kept answer
short opening old new waves number kept wants next done answer stepped at are is refused = record {
  is = is ∙ hold_for_short opening old new waves number kept wants next done answer (is_opening opening at.read) are at.there refused;
  keeps = subst (λ (b : Book). IsKeptWave opening b number kept) (sym refused.same) at.keeps;
  others = λ w o r other. ap (λ (b : Book). held_for b w o r) refused.same;
  rows = ap (λ (b : Book). length b.rows) refused.same;
  name = refl;
  orders = refl;
}

-- and so it is put back at its stage
pub short_at : (opening : Opening) (old new : Book) (waves : List Wave) (number : ℕ) (kept : KeptWave) (needs back : Needs) (next : WaveState)
    (done answer : Reply) (stepped : Stepped) → IsAt opening old waves number kept → kept.stage ≡ stage.Submitted needs → back ≡ needs
    → stepped ≡ hold_for opening (state_at old waves) next done number (wave_of kept) → IsRefusedShort opening needs.wants.items old new answer
    → HasAnswered opening stepped old new waves number kept (record kept { stage = stage.Submitted back }) answer
short_at opening old new waves number kept needs back next done answer stepped at submitted same is refused =
    let are = needs_are opening old number kept needs at.keeps.papers submitted in
    let again : stage.Submitted back ≡ kept.stage = ap stage.Submitted same ∙ sym submitted in
    subst (λ (t : Stage). HasAnswered opening stepped old new waves number kept (record kept { stage = t }) answer) (sym again)
    (short opening old new waves number kept needs.wants.items next done answer stepped at are.wants is refused)

-- a wave that is released from another stage than submitted or allotted
pub release_wrong : (opening : Opening) (state : State) (number : ℕ) (w : Wave) (s : Stage) → ((needs : Needs) → s ≡ stage.Submitted needs → ⊥)
    → ((sheet : HeldOrders) → s ≡ stage.Allotted sheet → ⊥)
    → release opening state number w (state_in s) ≡ refuse state (reply.WrongState (state_in s))
release_wrong opening state number w (stage.Submitted needs) submitted allotted = absurd (submitted needs refl)
release_wrong opening state number w (stage.Allotted sheet) submitted allotted = absurd (allotted sheet refl)
release_wrong opening state number w stage.Released submitted allotted = refl
release_wrong opening state number w stage.Cancelled submitted allotted = refl
release_wrong opening state number w stage.Done submitted allotted = refl

-- stock was held for a wave that goes out then
pub submitted_out : (opening : Opening) (old new : Book) (waves : List Wave) (number : ℕ) (kept : KeptWave) (needs : Needs) (sheet : HeldOrders)
    → IsAt opening old waves number kept → HasSheet number old new kept needs sheet
    → HasReleased opening old new waves number kept (record kept { stage = stage.Released }) sheet
submitted_out opening old new waves number kept needs sheet at has =
    let submitted : state_in kept.stage ≡ wave.Submitted = ap state_in has.stage in
    let are = needs_are opening old number kept needs at.keeps.papers has.stage in
    let below = wants_below opening kept.orders needs.wants.items are.wants in
    record {
      answers = record {
        is = ap (release opening (state_at old waves) number (wave_of kept)) submitted
            ∙ hold_for_done opening old new waves number kept needs.wants.items wave.Released reply.Released needs.rooms.sheet sheet.room are.wants has.held;
        keeps = record { numbered = at.keeps.numbered; papers = tt };
        others = has.held.allotted.others;
        rows = ap length (has.held.allotted.rows (length kept.orders) below) ∙ length-change_rows _ old.rows;
        name = refl;
        orders = refl;
      };
      copied = has.orders ∙ are.copied;
      listed = is_listed opening old new waves number kept needs.wants.items needs.rooms.sheet sheet.room at submitted are.wants has.held;
    }

-- an article of which units are wanted is below each number that all wants' articles are below
pub short_is_wanted : (wants : List Want) (articles article : ℕ) → ((k : ℕ) (want : Want) → slice_get wants k ≡ Some want → want.article < articles)
    → 0 < wanted_of wants article → article < articles
short_is_wanted [] articles article within some = let none : wanted_of [] article ≡ 0 = refl in absurd (omega (arith, some, none))
short_is_wanted (want ∷ wants) articles article within some = elim (cases_eq want.article article) [
  | inl here ↦ omega (arith, here, within 0 want refl)
  | inr other ↦
      let none : units_of article want ≡ 0 = cond-false (want.article == article) want.quantity 0 (ne_eqb want.article article other) in
      short_is_wanted wants articles article (λ k w there. within (suc k) w there) (omega (arith, some, none, sum_by-cons (units_of article) want wants))
]

-- as many rows are wanted of those in the book as of those in the opening
same_wanted : (rows : List Row) (others : List StockRow) (wants : List Want) → map row_place rows ≡ map stock_row_place others
    → wanted_rows rows wants ≡ wanted_places others wants
same_wanted [] [] wants same = refl
same_wanted [] (other ∷ others) wants same = absurd (cc)
same_wanted (row ∷ rows) [] wants same = absurd (cc)
same_wanted (row ∷ rows) (other ∷ others) wants same =
    let place : row_place row ≡ stock_row_place other = cc in
    let rest : map row_place rows ≡ map stock_row_place others = cc in
    omega (
      arith,
      sum_by-cons (λ (r : Row). if is_wanted wants r.article then 1 else 0) row rows,
      sum_by-cons (λ (r : StockRow). if is_wanted wants r.article then 1 else 0) other others,
      same_wanted rows others wants rest,
      ap {B = ℕ} (λ (p : Location × ℕ). if is_wanted wants p.1 then 1 else 0) place,
    )

-- a change that leaves each row's article leaves the number of rows that are wanted
pub wanted_kept : (change : ℕ → Row → Row) (place : ℕ) (rows : List Row) (wants : List Want) → ((k : ℕ) (r : Row) → (change k r).article ≡ r.article)
    → wanted_rows (change_rows change place rows) wants ≡ wanted_rows rows wants
wanted_kept change place [] wants each = refl
wanted_kept change place (row ∷ rows) wants each =
    omega (
      arith,
      sum_by-cons (λ (r : Row). if is_wanted wants r.article then 1 else 0) (change place row) (change_rows change (place + 1) rows),
      sum_by-cons (λ (r : Row). if is_wanted wants r.article then 1 else 0) row rows,
      ap {B = ℕ} (λ a. if is_wanted wants a then 1 else 0) (each place row),
      wanted_kept change (place + 1) rows wants each,
    )

-- room for what the opening's rows may take is room for what the book's rows may take
pub fits : (opening : Opening) (rows : List Row) (wants : List Want) (room : Content) → AreSameRows opening rows
    → IsFreshRoom (holds_at_most (wanted_places opening.stock.rows wants) wants) room → IsRoomFor rows wants room
fits opening rows wants room same fresh = record {
  empty = fresh.0;
  size = omega (
    arith,
    ap (λ n. holds_at_most n wants) (same_wanted rows opening.stock.rows wants same),
    fresh.1,
  );
}

-- so is room for what may be held in place of lost units
pub refill_fits : (opening : Opening) (rows : List Row) (row : Option ℕ) (quantity : ℕ) (rooms : Rooms) → AreSameRows opening rows
    → HaveSpaceAt opening.stock.rows row quantity rooms → HaveRoomsAt rows row quantity rooms
refill_fits opening rows row quantity rooms same space number r is there =
    let places : slice_get (map stock_row_place opening.stock.rows) number ≡ Some (row_place r) =
    ap (λ (places : List (Location × ℕ)). slice_get places number) (sym same) ∙ (slice_get-map row_place rows number ∙ ap (option_map row_place) there) in
    elim (slice_get_cases opening.stock.rows number).1 [
      | inl found ↦
          let other = found.0 in
          let place : stock_row_place other ≡ row_place r = same_Some _ _
          (ap (option_map stock_row_place) (sym found.2) ∙ (sym (slice_get-map stock_row_place opening.stock.rows number) ∙ places)) in
          let wants : List Want = want_of r.article quantity ∷ [] in
          let fits : HaveSpace (holds_at_most (wanted_places opening.stock.rows wants) wants) rooms =
          subst (λ article. HaveSpace (holds_at_most (wanted_places opening.stock.rows (want_of article quantity ∷ [])) (want_of article quantity ∷ [])) rooms)
          (ap (λ (p : Location × ℕ). p.1) place) (space number other is found.2) in
          subst (λ n. HaveSpace (holds_at_most n wants) rooms) (sym (same_wanted rows opening.stock.rows wants same)) fits
      | inr past ↦
          let none : slice_get (map stock_row_place opening.stock.rows) number ≡ None =
          slice_get-map stock_row_place opening.stock.rows number ∙ ap (option_map stock_row_place) past.1 in
          let both : Some (row_place r) ≡ None = sym places ∙ none in
          absurd (cc)
    ]
