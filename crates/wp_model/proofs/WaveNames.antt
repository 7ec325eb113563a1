-- The names of waves stay, whatever is done with a wave, and but for a cancel so does which of them are cancelled.
use Rattle.std.proofs.Common.{◌≡◌, ◌∙◌, refl, sym, ap, ℕ, zero, suc, ◌+◌, ◌==◌, ◌||◌, nat_le, nat_lt, Bool, true, false, List, [], ◌∷◌, length, map, Option}
use Rattle.std.proofs.Common.{Some, None}
use Rattle.std.proofs.Common.{bytes_eq, if◌then◌else◌, not, slice_get}
use Rattle.std.specs.Option.{is_some, option_map_or}
use Rattle.std.specs.Prelude.{slice_set}
use Rattle.wp_model.proofs.Found.{option_map_or-both, wave_found}
use Rattle.wp_model.specs.Cancelled.{is_cancelled}
use Rattle.wp_model.specs.Change.{hold, receive, settle, take}
use Rattle.wp_model.specs.Demand.{free_units, short_article}
use Rattle.wp_model.specs.Limits.{most_on_hand}
use Rattle.wp_model.specs.Opening.{Opening, article_name}
use Rattle.wp_model.specs.State.{State, Wave, wave_held}
use Rattle.wp_model.specs.Step.{Held, Stepped, allot, at_held, at_released, at_wave, held_for, hold_for, is_among, one_demand, pick, refuse, refuse_short}
use Rattle.wp_model.specs.Step.{receive_at, release, row_from, step, wave_from, write_off}
use Rattle.wp_model.specs.declared.command.Command.TheVariants as command
use Rattle.wp_model.specs.declared.location.Location.{Location}
use Rattle.wp_model.specs.declared.reply.Reply.{Reply}
use Rattle.wp_model.specs.declared.reply.Reply.TheVariants as reply
use Rattle.wp_model.specs.declared.reply.WaveState.{WaveState}
use Rattle.wp_model.specs.declared.reply.WaveState.TheVariants as wave
use Rattle.wp_model.specs.declared.row.Row.{Row}

abbrev names_of : List Wave → List (List ℕ)
names_of waves = map (λ (w : Wave). w.name) waves

-- a wave's name, and whether it is cancelled
abbrev pub Mark : Type 0
Mark = List ℕ × Bool

abbrev pub mark_of : Wave → Mark
mark_of w = (w.name, is_cancelled w.state)

abbrev pub marks_of : List Wave → List Mark
marks_of waves = map mark_of waves

-- the names are those of the marks
names_from_marks : (waves : List Wave) → names_of waves ≡ map (λ (m : Mark). m.0) (marks_of waves)
names_from_marks [] = refl
names_from_marks (w ∷ waves) = ap (λ names. w.name ∷ names) (names_from_marks waves)

found_if : {X : Type 0} (test : Bool) (x : X) (found : Option X) (any : Bool) → is_some found ≡ any → is_some (if test then Some x else found) ≡ (test || any)
found_if true x found any e = refl
found_if false x found any e = e

-- a wave is found where its name is among the names
found_among : (number : ℕ) (waves : List Wave) (name : List ℕ) → is_some (wave_from number waves name) ≡ is_among (names_of waves) name
found_among number [] name = refl
found_among number (w ∷ waves) name =
    found_if (bytes_eq w.name name) (number, w) (wave_from (number + 1) waves name) (is_among (names_of waves) name) (found_among (number + 1) waves name)

-- a wave that changes but for its mark leaves the marks
marks_put : (waves : List Wave) (i : ℕ) (w changed : Wave) → slice_get waves i ≡ Some w → mark_of changed ≡ mark_of w
    → marks_of (slice_set waves i changed) ≡ marks_of waves
marks_put [] i w changed there same = refl
marks_put (v ∷ waves) zero w changed there same =
    let own : v ≡ w = cc there in
    ap (λ mark. mark ∷ marks_of waves) (same ∙ ap mark_of (sym own))
marks_put (v ∷ waves) (suc i) w changed there same = ap (λ marks. mark_of v ∷ marks) (marks_put waves i w changed there same)

either_mark : (test : Bool) (a w : Wave) → mark_of a ≡ mark_of w → mark_of (if test then a else w) ≡ mark_of w
either_mark true a w same = same
either_mark false a w same = refl

-- the mark of a wave that goes on in a state in which it isn't cancelled, as it was
on_in : (w : Wave) (s next : WaveState) → w.state ≡ s → is_cancelled s ≡ false → is_cancelled next ≡ false → mark_of (record w { state = next }) ≡ mark_of w
on_in w s next e was will = ap (λ b. (w.name, b)) (will ∙ sym was ∙ ap is_cancelled (sym e))

-- a step leaves the marks of the waves
abbrev pub Leaves : State → Stepped → Type 0
Leaves state stepped = marks_of stepped.state.waves ≡ marks_of state.waves

either : (state : State) (test : Bool) (a b : Stepped) → Leaves state a → Leaves state b → Leaves state (if test then a else b)
either state true a b first second = first
either state false a b first second = second

at_wave_leaves : (state : State) (name : List ℕ) (change : ℕ → Wave → Stepped)
    → ((number : ℕ) (w : Wave) → slice_get state.waves number ≡ Some w → Leaves state (change number w)) → Leaves state (at_wave state name change)
at_wave_leaves state name change each =
    option_map_or-both (Leaves state) (λ (found : ℕ × Wave). change found.0 found.1) (wave_from 0 state.waves name) _
    (λ found is. each found.0 found.1 (wave_found state.waves name found is)) (λ none. refl)

-- stock is held for a wave
holding_leaves : (opening : Opening) (state : State) (next : WaveState) (answer : Reply) (number : ℕ) (w : Wave) → slice_get state.waves number ≡ Some w
    → w.state ≡ wave.Submitted → is_cancelled next ≡ false → Leaves state (hold_for opening state next answer number w)
holding_leaves opening state next answer number w there e will =
    option_map_or-both (Leaves state) (refuse_short opening state w) (short_article opening state.rows w.orders None) _
    (λ article short. refl) (λ covered. marks_put state.waves number w (record w { state = next }) there (on_in w wave.Submitted next e refl will))

allot_leaves : (opening : Opening) (state : State) (number : ℕ) (w : Wave) (s : WaveState) → slice_get state.waves number ≡ Some w → w.state ≡ s
    → Leaves state (allot opening state number w s)
allot_leaves opening state number w wave.Submitted there e = holding_leaves opening state wave.Allotted reply.Allotted number w there e refl
allot_leaves opening state number w other there e = refl

release_leaves : (opening : Opening) (state : State) (number : ℕ) (w : Wave) (s : WaveState) → slice_get state.waves number ≡ Some w → w.state ≡ s
    → Leaves state (release opening state number w s)
release_leaves opening state number w wave.Submitted there e = holding_leaves opening state wave.Released reply.Released number w there e refl
release_leaves opening state number w wave.Allotted there e =
    marks_put state.waves number w (record w { state = wave.Released }) there (on_in w wave.Allotted wave.Released e refl refl)
release_leaves opening state number w other there e = refl

settle_leaves : (state before : State) (number : ℕ) (w : Wave) (picked : Bool) (answer : Reply) → before.waves ≡ state.waves
    → slice_get state.waves number ≡ Some w → w.state ≡ wave.Released
    → Leaves state (record { reply = answer; state = settle number (record w { picked = picked }) before })
settle_leaves state before number w picked answer same there e =
    let left : Wave = record w { picked = picked } in
    let none = wave_held before number (length w.orders) == 0 in
    ap (λ waves. marks_of (slice_set waves number (if none then record left { state = wave.Done } else left))) same
    ∙ marks_put state.waves number w _ there
    (either_mark none (record left { state = wave.Done }) left (on_in left wave.Released wave.Done e refl refl))

write_off_leaves : (opening : Opening) (state : State) (number : ℕ) (w : Wave) (quantity : ℕ) (held : Held) → slice_get state.waves number ≡ Some w
    → w.state ≡ wave.Released → Leaves state (write_off opening state number w quantity held)
write_off_leaves opening state number w quantity held there e =
    let taken = take number held.order held.row quantity state in
    let again = hold (one_demand held.order held.article quantity) (Some held.row) number (length w.orders) taken in
    let lost = reply.Lost (article_name opening held.article) quantity in
    either state (nat_le quantity (free_units taken.rows held.article (Some held.row)))
    (record { reply = reply.Refilled quantity; state = settle number w again }) (record { reply = lost; state = settle number w taken })
    (settle_leaves state again number w w.picked (reply.Refilled quantity) refl there e) (settle_leaves state taken number w w.picked lost refl there e)

at_held_leaves : (state : State) (number : ℕ) (w : Wave) (order : List ℕ) (location : Location) (quantity : ℕ) (change : Held → Stepped)
    → ((held : Held) → Leaves state (change held)) → Leaves state (at_held state number w order location quantity change)
at_held_leaves state number w order location quantity change each =
    option_map_or-both (Leaves state) (λ (held : Held). if nat_lt held.units quantity then refuse state (reply.TooMuch held.units) else change held)
    (held_for state number w order location) _ (λ held is. either state (nat_lt held.units quantity) _ _ refl (each held)) (λ none. refl)

at_released_leaves : (state : State) (number : ℕ) (w : Wave) (order : List ℕ) (location : Location) (quantity : ℕ) (change : Held → Stepped)
    (s : WaveState) → w.state ≡ s → (w.state ≡ wave.Released → (held : Held) → Leaves state (change held))
    → Leaves state (at_released state number w order location quantity change s)
at_released_leaves state number w order location quantity change wave.Released e each =
    at_held_leaves state number w order location quantity change (each e)
at_released_leaves state number w order location quantity change other e each = refl

-- an allotment, a release, a pick and a loss leave the marks
pub allotment_leaves : (opening : Opening) (state : State) (name : List ℕ) → Leaves state (step opening state (command.Allot name))
allotment_leaves opening state name =
    at_wave_leaves state name _ (λ number w there. allot_leaves opening state number w w.state there refl)

pub release_command_leaves : (opening : Opening) (state : State) (name : List ℕ) → Leaves state (step opening state (command.Release name))
release_command_leaves opening state name =
    at_wave_leaves state name _ (λ number w there. release_leaves opening state number w w.state there refl)

pub pick_leaves : (opening : Opening) (state : State) (name order : List ℕ) (location : Location) (quantity : ℕ)
    → Leaves state (step opening state (command.Pick name order location quantity))
pick_leaves opening state name order location quantity =
    at_wave_leaves state name _ (λ number w there. at_released_leaves state number w order location quantity (pick state number w quantity) w.state refl
    (λ e held. settle_leaves state (take number held.order held.row quantity state) number w true reply.Picked refl there e))

pub missing_leaves : (opening : Opening) (state : State) (name order : List ℕ) (location : Location) (quantity : ℕ)
    → Leaves state (step opening state (command.Missing name order location quantity))
missing_leaves opening state name order location quantity =
    at_wave_leaves state name _ (λ number w there. at_released_leaves state number w order location quantity
    (write_off opening state number w quantity) w.state refl (λ e held. write_off_leaves opening state number w quantity held there e))

-- so does a receipt
receive_at_leaves : (opening : Opening) (state : State) (article : List ℕ) (quantity number : ℕ) (row : Row)
    → Leaves state (receive_at opening state article quantity number row)
receive_at_leaves opening state article quantity number row =
    either state (not (bytes_eq (article_name opening row.article) article)) _ _ refl
    (either state (nat_lt most_on_hand (row.on_hand + quantity)) (refuse state (reply.TooMany row.on_hand))
    (record { reply = reply.Received; state = receive number quantity state }) refl refl)

pub receipt_leaves : (opening : Opening) (state : State) (location : Location) (article : List ℕ) (quantity : ℕ)
    → Leaves state (step opening state (command.Receive location article quantity))
receipt_leaves opening state location article quantity =
    option_map_or-both (Leaves state) (λ (found : ℕ × Row). receive_at opening state article quantity found.0 found.1) (row_from 0 state.rows location) _
    (λ found is. receive_at_leaves opening state article quantity found.0 found.1) (λ none. refl)

-- where the wave of a name isn't known, it is answered so
unknown : (state : State) (name : List ℕ) (change : ℕ → Wave → Stepped) → is_some (wave_from 0 state.waves name) ≡ false
    → (at_wave state name change).reply ≡ reply.UnknownWave
unknown state name change none = unknown_in (wave_from 0 state.waves name) none
  where
    unknown_in : (found : Option (ℕ × Wave)) → is_some found ≡ false
        → (option_map_or (λ found. change found.0 found.1) found (refuse state reply.UnknownWave)).reply ≡ reply.UnknownWave
    unknown_in None none = refl
    unknown_in (Some x) none = absurd (cc none)

known_still : (state after : State) (name : List ℕ) (found : Bool) → is_some (wave_from 0 state.waves name) ≡ found → (found ≡ false → ⊥)
    → marks_of after.waves ≡ marks_of state.waves → is_some (wave_from 0 after.waves name) ≡ true
known_still state after name true is known same =
    let names = names_from_marks after.waves ∙ ap (map (λ (m : Mark). m.0)) same ∙ sym (names_from_marks state.waves) in
    found_among 0 after.waves name ∙ ap (λ names. is_among names name) names ∙ sym (found_among 0 state.waves name) ∙ is
known_still state after name false is known same = absurd (known refl)

-- a wave that a release sent out is known after it
pub released_is_known : (opening : Opening) (state : State) (name : List ℕ) → (step opening state (command.Release name)).reply ≡ reply.Released
    → is_some (wave_from 0 (step opening state (command.Release name)).state.waves name) ≡ true
released_is_known opening state name done =
    known_still state (step opening state (command.Release name)).state name (is_some (wave_from 0 state.waves name)) refl
    (λ none. absurd (cc (sym done ∙ unknown state name (λ number w. release opening state number w w.state) none)))
    (release_command_leaves opening state name)

-- and so is a wave for which lost units are held elsewhere
pub refilled_is_known : (opening : Opening) (state : State) (name order : List ℕ) (location : Location) (quantity units : ℕ)
    → (step opening state (command.Missing name order location quantity)).reply ≡ reply.Refilled units
    → is_some (wave_from 0 (step opening state (command.Missing name order location quantity)).state.waves name) ≡ true
refilled_is_known opening state name order location quantity units done =
    let asked = command.Missing name order location quantity in
    known_still state (step opening state asked).state name (is_some (wave_from 0 state.waves name)) refl
    (λ none. absurd (cc (sym done ∙ unknown state name
    (λ number w. at_released state number w order location quantity (write_off opening state number w quantity) w.state) none)))
    (missing_leaves opening state name order location quantity)
