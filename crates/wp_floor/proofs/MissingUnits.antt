-- Waves of which units are missing.
use Rattle.std.proofs.Common.{◌≡◌, ◌∙◌, refl, sym, ap, ap₂, subst, ℕ, ◌+◌, ◌-◌, ◌<◌, ◌≤◌, ◌==◌, ◌&&◌, nat_le, nat_lt, true, false, inl, inr, List, []}
use Rattle.std.proofs.Common.{length, map, Some, slice_get, if◌then◌else◌, arith, ne_eqb}
use Rattle.std.proofs.Math.Path.{fun_ext}
use Rattle.std.proofs.lemmas.Bool.{and_right, cases_eq, cond-false, cond_both}
use Rattle.std.proofs.lemmas.Bool.Decides.{nat_tests}
use Rattle.std.proofs.lemmas.Option.{get_or_from_slice_get, slice_get_within}
use Rattle.wp_allot.proofs.UntouchedStock.{none_from_excepted}
use Rattle.wp_book.specs.Room.{Content}
use Rattle.wp_model.proofs.Found.{option_map_or-both}
use Rattle.wp_model.proofs.Held.{orders_in-at}
use Rattle.wp_model.proofs.Moves.{hold_moves, moved_then}
use Rattle.wp_model.specs.StockMoves.{IsMoved}
use Rattle.wp_model.proofs.Rows.{length-change_rows}
use Rattle.wp_model.specs.Book.{Book, held_for, held_list}
use Rattle.wp_model.specs.Change.{hold, settle}
use Rattle.wp_model.specs.Demand.{free_units}
use Rattle.wp_model.specs.Opening.{Opening, article_name}
use Rattle.wp_model.specs.State.{State, Wave}
use Rattle.wp_model.specs.Step as step
use Rattle.wp_model.specs.Step.{Stepped, at_released, is_live, one_demand, refill, refuse, says_refilled, write_off}
use Rattle.wp_model.specs.declared.command.Command.TheVariants as command
use Rattle.wp_model.specs.declared.location.Location.{Location}
use Rattle.wp_model.specs.declared.reply.Reply.{Reply}
use Rattle.wp_model.specs.declared.reply.Reply.TheVariants as reply
use Rattle.wp_model.specs.declared.reply.WaveState.{WaveState}
use Rattle.wp_model.specs.declared.reply.WaveState.TheVariants as wave
use Rattle.wp_floor.specs.Floor.{HasAnswered, HasStepped, IsAt, IsFloor, state_at, state_in, state_of, wave_of}
use Rattle.wp_floor.specs.HeldUnits.{IsClaimRefused, held_of}
use Rattle.wp_floor.specs.MissingUnits.{HasRefilled, IfAnswered, IfRefilled, IsHeldElsewhere, ListsMore, TellsRefill, share_elsewhere}
use Rattle.wp_floor.specs.Waves.{IsFound, IsReturned, waves_of}
use Rattle.wp_floor.specs.declared.floor.Floor.{Floor}
use Rattle.wp_floor.specs.declared.held.HeldUnits.{HeldUnits}
use Rattle.wp_floor.specs.declared.refilling.Missed.{Missed}
use Rattle.wp_floor.specs.declared.refilling.Missed.TheVariants as missed
use Rattle.wp_floor.specs.declared.waves.Found.{Found}
use Rattle.wp_floor.specs.declared.waves.KeptWave.{KeptWave}
use Rattle.wp_floor.specs.declared.waves.Waves.{Waves}
use Rattle.wp_floor.proofs.BookStates.{state_is, with_held_is}
use Rattle.wp_floor.proofs.Floors.{answered, back_there, found_at, takers_same, wave_by}
use Rattle.wp_floor.proofs.TakenUnits.{IsLeft, IsTaking, bounded_after, settled, taken_state, taking_moves}
use Rattle.wp_floor.proofs.RefilledUnits.{own_demand}

-- the state in which lost units are held elsewhere
refilled_state : (old new : Book) (waves : List Wave) (number orders quantity : ℕ) (lost : HeldUnits) (room : Content) → lost.order < orders
    → IsHeldElsewhere number lost quantity old new room
    → hold (one_demand lost.order lost.article quantity) (Some lost.row) number orders (state_at old waves) ≡ state_at new waves
refilled_state old new waves number orders quantity lost room below is =
    sym (state_is waves new.rows _ (held_for new) _ (is.rows orders below) (with_held_is old new waves number _ is.others is.held))

-- units that were lost and held elsewhere have moved for their wave alone
refill_moves : (opening : Opening) (old middle new : Book) (waves : List Wave) (number : ℕ) (was : KeptWave) (lost : HeldUnits) (quantity : ℕ) (room : Content)
    → IsTaking opening old middle waves number was lost.order lost.row quantity → IsHeldElsewhere number lost quantity middle new room
    → IsMoved number (state_at old waves) (state_at new waves)
refill_moves opening old middle new waves number was lost quantity room taking is =
    let rest = state_at middle waves in
    let orders = length was.orders in
    let there : slice_get waves number ≡ Some (wave_of was) = taking.at.there in
    let taken = taking_moves opening old middle waves number was lost.order lost.row quantity taking in
    let again = hold_moves (one_demand lost.order lost.article quantity) (Some lost.row) number orders rest
    (slice_get_within waves number (wave_of was) there) (orders_in-at rest number (wave_of was) there)
    (λ article order some. omega (arith, own_demand lost.order lost.article quantity article order some, taking.within)) taken.stock in
    moved_then number (state_at old waves) rest (state_at new waves) taken
    (subst (IsMoved number rest) (refilled_state middle new waves number orders quantity lost room taking.within is) again)

-- what is held in place of lost units is what their wave holds beyond what it held before
gained : (opening : Opening) (old middle new : Book) (waves : List Wave) (number : ℕ) (was : KeptWave) (lost : HeldUnits) (quantity : ℕ) (room : Content)
    → IsTaking opening old middle waves number was lost.order lost.row quantity → IsHeldElsewhere number lost quantity middle new room
    → (o r : ℕ) → share_elsewhere middle.rows lost quantity o r ≡ held_for new number o r - held_for old number o r
gained opening old middle new waves number was lost quantity room taking is o r = elim (cases_eq r lost.row) [
  | inl same ↦
      let none : share_elsewhere middle.rows lost quantity o r ≡ 0 =
      ap (share_elsewhere middle.rows lost quantity o) same
      ∙ none_from_excepted (one_demand lost.order lost.article quantity) middle.rows o lost.row in
      let less : held_for middle number o r ≤ held_for old number o r = subst (λ n. n ≤ held_for old number o r) (sym (taking.taken.held o r))
      (cond_both ((o == lost.order) && (r == lost.row)) (held_for old number o r - quantity) (held_for old number o r) (λ n. n ≤ held_for old number o r)
      (λ e. omega arith) (λ e. omega arith)) in
      omega (arith, none, less, is.held o r)
  | inr other ↦
      let stays = taking.taken.held o r ∙ cond-false ((o == lost.order) && (r == lost.row)) (held_for old number o r - quantity) (held_for old number o r)
      (and_right _ _ (ne_eqb r lost.row other)) in
      omega (arith, stays, is.held o r)
]

-- lost units were held elsewhere
pub refilled : (opening : Opening) (old middle new : Book) (waves : List Wave) (number : ℕ) (was left : KeptWave) (lost : HeldUnits) (quantity : ℕ)
    (room : Content)
    → IsTaking opening old middle waves number was lost.order lost.row quantity → IsHeldElsewhere number lost quantity middle new room
    → IsLeft new number was left
    → HasRefilled opening (write_off opening (state_at old waves) number (wave_of was) quantity (held_of lost)) old new waves number was left quantity room
refilled opening old middle new waves number was left lost quantity room taking is leaves =
    let w = wave_of was in
    let orders = length was.orders in
    let rest = state_at middle waves in
    let again = hold (one_demand lost.order lost.article quantity) (Some lost.row) number orders rest in
    let bounded = bounded_after old new waves number was taking.at.there (refill_moves opening old middle new waves number was lost quantity room taking is) in
    let settles = settled opening new waves number was left taking.at.keeps.numbered taking.released bounded leaves in
    let covered : nat_le quantity (free_units middle.rows lost.article (Some lost.row)) ≡ true = let e = is.covered in grind (arith, nat_tests) in
    let refilled_step : Stepped = record { reply = reply.Refilled quantity; state = settle number w again } in
    let lost_step : Stepped = record { reply = reply.Lost (article_name opening lost.article) quantity; state = settle number w rest } in
    let rows : length new.rows ≡ length middle.rows = ap length (is.rows orders taking.within) ∙ length-change_rows _ middle.rows in
    record {
      answers = record {
        is = ap (refill opening number w quantity (held_of lost)) (taken_state opening old middle waves number was lost.order lost.row quantity taking)
            ∙ (ap (λ b. if b then refilled_step else lost_step) covered
            ∙ (ap (λ (s : State). let t : Stepped = record { reply = reply.Refilled quantity; state = settle number w s } in t)
            (refilled_state middle new waves number orders quantity lost room taking.within is)
            ∙ ap (λ (s : State). let t : Stepped = record { reply = reply.Refilled quantity; state = s } in t) settles.is));
        keeps = settles.keeps;
        others = λ o order row other. is.others o order row other ∙ taking.taken.others o order row other;
        rows = rows ∙ (ap length taking.taken.rows ∙ length-change_rows _ old.rows);
        name = settles.name;
        orders = settles.orders;
      };
      listed = is.listed orders taking.within
          ∙ ap₂ (λ n h. held_list orders n h) (sym rows) (fun_ext
          (λ o. fun_ext (λ r. gained opening old middle new waves number was lost quantity room taking is o r)));
    }

-- lost units were not held elsewhere
pub lost : (opening : Opening) (old middle new : Book) (waves : List Wave) (number : ℕ) (was left : KeptWave) (units : HeldUnits) (quantity : ℕ)
    (article : List ℕ)
    → IsTaking opening old middle waves number was units.order units.row quantity → free_units middle.rows units.article (Some units.row) < quantity
    → new ≡ middle → slice_get opening.stock.articles units.article ≡ Some article → IsLeft new number was left
    → HasAnswered opening (write_off opening (state_at old waves) number (wave_of was) quantity (held_of units)) old new waves number was left
    (reply.Lost article quantity)
lost opening old middle new waves number was left units quantity article takes few same named leaves =
    let w = wave_of was in
    let rest = state_at new waves in
    let taking = subst (λ (book : Book). IsTaking opening old book waves number was units.order units.row quantity) (sym same) takes in
    let again = hold (one_demand units.order units.article quantity) (Some units.row) number (length was.orders) rest in
    let bounded = bounded_after old new waves number was taking.at.there
    (taking_moves opening old new waves number was units.order units.row quantity taking) in
    let settles = settled opening new waves number was left taking.at.keeps.numbered taking.released bounded leaves in
    let less : free_units new.rows units.article (Some units.row) < quantity =
    subst (λ (book : Book). free_units book.rows units.article (Some units.row) < quantity) (sym same) few in
    let uncovered : nat_le quantity (free_units new.rows units.article (Some units.row)) ≡ false = grind (arith, nat_tests) in
    let refilled_step : Stepped = record { reply = reply.Refilled quantity; state = settle number w again } in
    let lost_step : Stepped = record { reply = reply.Lost (article_name opening units.article) quantity; state = settle number w rest } in
    record {
      is = ap (refill opening number w quantity (held_of units)) (taken_state opening old new waves number was units.order units.row quantity taking)
          ∙ (ap (λ b. if b then refilled_step else lost_step) uncovered
          ∙ ap₂ (λ (name : List ℕ) (s : State). let t : Stepped = record { reply = reply.Lost name quantity; state = s } in t)
          (get_or_from_slice_get opening.stock.articles units.article article [] named) settles.is);
      keeps = settles.keeps;
      others = taking.taken.others;
      rows = ap length taking.taken.rows ∙ length-change_rows _ old.rows;
      name = settles.name;
      orders = settles.orders;
    }

-- where a claim does nothing else, it is refused
never_refills : (state : State) (number : ℕ) (w : Wave) (order : List ℕ) (location : Location) (quantity : ℕ) (s : WaveState)
    → says_refilled (at_released state number w order location quantity (λ held. refuse state reply.NoRow) s).reply ≡ false
never_refills state number w order location quantity wave.Released =
    option_map_or-both (λ (stepped : Stepped). says_refilled stepped.reply ≡ false)
    (λ (held : step.Held). if nat_lt held.units quantity then refuse state (reply.TooMuch held.units) else refuse state reply.NoRow)
    (step.held_for state number w order location) (refuse state (reply.NotHeld location))
    (λ held is. cond_both (nat_lt held.units quantity) (refuse state (reply.TooMuch held.units)) (refuse state reply.NoRow)
    (λ (stepped : Stepped). says_refilled stepped.reply ≡ false) (λ e. refl) (λ e. refl))
    (λ none. refl)
never_refills state number w order location quantity wave.Submitted = refl
never_refills state number w order location quantity wave.Allotted = refl
never_refills state number w order location quantity wave.Cancelled = refl
never_refills state number w order location quantity wave.Done = refl

-- the refusal of a claim is no refill
pub refusal_stays : (book : Book) (number : ℕ) (kept : KeptWave) (order : List ℕ) (location : Location) (quantity : ℕ) (answer : Reply)
    → IsClaimRefused book number kept order location quantity answer → says_refilled answer ≡ false
refusal_stays book number kept order location quantity answer is =
    sym (ap (λ (s : Stepped). says_refilled s.reply) (is [] (λ held. refuse (state_at book []) reply.NoRow)))
    ∙ never_refills (state_at book []) number (wave_of kept) order location quantity (state_in kept.stage)

-- what a command on missing units does to the wave with a number
abbrev pub missing_at : Opening → State → List ℕ → Location → ℕ → ℕ → Wave → Stepped
missing_at opening state order location quantity number w = at_released state number w order location quantity
    (write_off opening state number w quantity) w.state

-- a wave of a floor was asked, and the floor has it back
pub record IsAsked (opening : Opening) (name : List ℕ) (old : Floor) (rest : Waves) (found : Found) (waves : Waves)
    (left : KeptWave) : Type 0 where
  pub floor : IsFloor opening old
  pub is_found : IsFound name old.waves rest found
  pub waves_are : IsReturned rest (record found { wave = left }) waves
  pub live : is_live (state_in left.stage) ≡ is_live (state_in found.wave.stage)

stepped : (opening : Opening) (name order : List ℕ) (location : Location) (quantity : ℕ) (old : Floor) (rest : Waves) (found : Found) (book : Book)
    (waves : Waves) (left : KeptWave) (answer : Reply)
    → IsAsked opening name old rest found waves left
    → HasAnswered opening (missing_at opening (state_of old) order location quantity found.number (wave_of found.wave)) old.book book
    (map wave_of (waves_of old.waves)) found.number found.wave left answer
    → HasStepped opening (command.Missing name order location quantity) old (record { book = book; waves = waves; takers = old.takers }) answer
stepped opening name order location quantity old rest found book waves left answer asked answers =
    answered opening (command.Missing name order location quantity) name (missing_at opening (state_of old) order location quantity) old rest found
    (record { book = book; waves = waves; takers = old.takers }) left answer refl
    (record {
      floor = asked.floor;
      is_found = asked.is_found;
      answers = answers;
      waves = asked.waves_are;
      takers = takers_same opening name old waves rest found left asked.floor asked.is_found asked.waves_are answers.name answers.orders asked.live;
    })

-- what is listed of a wave is told of the wave of its name
told : (opening : Opening) (name : List ℕ) (old new : Floor) (rest : Waves) (found : Found) (left : KeptWave) (room : Content)
    → IsAsked opening name old rest found new.waves left → IsFloor opening new
    → left.name ≡ found.wave.name → left.orders ≡ found.wave.orders → ListsMore old.book new.book found.number (length found.wave.orders) room
    → TellsRefill (state_of old) (state_of new) name room
told opening name old new rest found left room asked floor named orders listed =
    let there = back_there opening name old new.waves rest found left asked.floor asked.is_found named asked.waves_are in
    let by = wave_by (map wave_of (waves_of new.waves)) name 0 found.number (wave_of left) there (named ∙ asked.is_found.named) floor.sound.names in
    let zero : 0 + found.number ≡ found.number = omega arith in (
      (found.number, wave_of left),
      by ∙ ap (λ (n : ℕ). Some (n, wave_of left)) zero,
      listed ∙ ap (λ (os : List (List ℕ)). held_list (length os) (length new.book.rows)
          (λ o r. held_for new.book found.number o r - held_for old.book found.number o r)) (sym orders),
    )

-- what the floor answers and tells
pub record IsMissingAnswered (opening : Opening) (name order : List ℕ) (location : Location) (quantity : ℕ) (old new : Floor)
    (result : Missed) : Type 0 where
  pub out : IfRefilled result (λ room. HasStepped opening (command.Missing name order location quantity) old new (reply.Refilled quantity))
  pub told : IfRefilled result (λ room. TellsRefill (state_of old) (state_of new) name room)
  pub refused : IfAnswered result (λ why. HasStepped opening (command.Missing name order location quantity) old new why)

-- the floor answers a loss and tells its refill as the wave does
pub missing_answered : (opening : Opening) (name order : List ℕ) (location : Location) (quantity : ℕ) (old : Floor) (rest : Waves) (found : Found)
    (book : Book) (waves : Waves) (left : KeptWave) (result : Missed)
    → IsAsked opening name old rest found waves left
    → IfRefilled result (λ room. (ws : List Wave) → IsAt opening old.book ws found.number found.wave → HasRefilled opening
    (missing_at opening (state_at old.book ws) order location quantity found.number (wave_of found.wave)) old.book book ws found.number found.wave left
    quantity room)
    → IfAnswered result (λ why. (ws : List Wave) → IsAt opening old.book ws found.number found.wave → HasAnswered opening
    (missing_at opening (state_at old.book ws) order location quantity found.number (wave_of found.wave)) old.book book ws found.number found.wave left
    why)
    → IsMissingAnswered opening name order location quantity old (record { book = book; waves = waves; takers = old.takers }) result
missing_answered opening name order location quantity old rest found book waves left (missed.Refilled room) asked done refused =
    let is = done (map wave_of (waves_of old.waves)) (found_at opening name old rest found asked.floor asked.is_found) in
    let steps = stepped opening name order location quantity old rest found book waves left (reply.Refilled quantity) asked is.answers in
    record {
      out = steps;
      told = told opening name old (record { book = book; waves = waves; takers = old.takers }) rest found left room asked steps.floor is.answers.name
          is.answers.orders is.listed;
      refused = tt;
    }
missing_answered opening name order location quantity old rest found book waves left (missed.Answered why) asked done refused = record {
  out = tt;
  told = tt;
  refused = stepped opening name order location quantity old rest found book waves left why asked
      (refused (map wave_of (waves_of old.waves)) (found_at opening name old rest found asked.floor asked.is_found));
}

-- what holds where a loss is refilled goes on to what follows from it
pub refilled-weaker : (result : Missed) (P Q : Content → Type 0) → ((room : Content) → P room → Q room) → IfRefilled result P → IfRefilled result Q
refilled-weaker (missed.Refilled room) P Q follows holds = follows room holds
refilled-weaker (missed.Answered answer) P Q follows holds = tt

-- what holds where a loss is answered goes on to what follows from it
pub answered-weaker : (result : Missed) (P Q : Reply → Type 0) → ((answer : Reply) → P answer → Q answer) → IfAnswered result P → IfAnswered result Q
answered-weaker (missed.Refilled room) P Q follows holds = tt
answered-weaker (missed.Answered answer) P Q follows holds = follows answer holds
