-- A wave that went out is cancelled in the end exactly where a later entry cancels it.
use Rattle.std.proofs.Common.{◌≡◌, ◌∙◌, refl, sym, ap, subst, ℕ, zero, suc, ◌+◌, ◌<◌, ◌&&◌, ◌||◌, Bool, true, false, List, [], ◌∷◌, ◌++◌, Option, Some, None}
use Rattle.std.proofs.Common.{arith, bytes_eq, if◌then◌else◌, option_map, slice_get, ◌↔◌, IsTrue}
use Rattle.std.proofs.lemmas.Slice.Eq.{bytes_eq-Decides}
use Rattle.std.specs.List.{list_any}
use Rattle.std.specs.Option.{option_map_or}
use Rattle.std.specs.Prelude.{slice_set}
use Rattle.wp_model.proofs.Found.{option_map_or-both, wave_found}
use Rattle.wp_model.proofs.FoundWaves.{found_named, found_put_other, next_is_found}
use Rattle.wp_model.proofs.WaveNames.{Mark, allotment_leaves, mark_of, marks_of, missing_leaves, pick_leaves, receipt_leaves, release_command_leaves}
use Rattle.wp_model.specs.Cancelled.{GoesOutAt, IsCancelledAfter, is_cancelled, is_cancelled_in}
use Rattle.wp_model.specs.Demand.{short_article}
use Rattle.wp_model.specs.History.{History, IsLegal, IsLegalFrom, state_after, state_from}
use Rattle.wp_model.specs.Opening.{Opening}
use Rattle.wp_model.specs.State.{State, Wave, opening_state}
use Rattle.wp_model.specs.Step.{Stepped, add_wave, cancel, give_up, refuse, refuse_short, release, step, submit_fault, wave_from}
use Rattle.wp_model.specs.declared.command.Command.{Command}
use Rattle.wp_model.specs.declared.command.Command.TheVariants as command
use Rattle.wp_model.specs.declared.entry.Entry.{Entry}
use Rattle.wp_model.specs.declared.reply.Reply.{Reply}
use Rattle.wp_model.specs.declared.reply.Reply.TheVariants as reply
use Rattle.wp_model.specs.declared.reply.WaveState.{WaveState}
use Rattle.wp_model.specs.declared.reply.WaveState.TheVariants as wave

-- whether the first wave of a name is cancelled, by the waves' marks
abbrev found_mark : List Mark → List ℕ → Option Bool
found_mark [] name = None
found_mark (m ∷ ms) name = if bytes_eq m.0 name then Some m.1 else found_mark ms name

-- the same of waves
abbrev mark_in : List Wave → List ℕ → Option Bool
mark_in waves name = found_mark (marks_of waves) name

-- it is that of the wave that is found
mark_in-found : (first : ℕ) (waves : List Wave) (name : List ℕ)
    → mark_in waves name ≡ option_map (λ (f : ℕ × Wave). is_cancelled f.1.state) (wave_from first waves name)
mark_in-found first [] name = refl
mark_in-found first (w ∷ waves) name = by (bytes_eq w.name name) (mark_in-found (first + 1) waves name)
  where
    by : (test : Bool) → mark_in waves name ≡ option_map (λ (f : ℕ × Wave). is_cancelled f.1.state) (wave_from (first + 1) waves name)
        → (if test then Some (is_cancelled w.state) else mark_in waves name)
        ≡ option_map (λ (f : ℕ × Wave). is_cancelled f.1.state) (if test then Some (first, w) else wave_from (first + 1) waves name)
    by true rest = refl
    by false rest = rest

marked : (waves : List Wave) (name : List ℕ) (number : ℕ) (w : Wave) (cancelled : Bool) → wave_from 0 waves name ≡ Some (number, w)
    → is_cancelled w.state ≡ cancelled → mark_in waves name ≡ Some cancelled
marked waves name number w cancelled found is =
    mark_in-found 0 waves name ∙ ap (option_map (λ (f : ℕ × Wave). is_cancelled f.1.state)) found ∙ ap (λ (b : Bool). Some b) is

-- the test of a state is the mark of the wave
cancelled_by_mark : (state : State) (name : List ℕ) (cancelled : Bool) → mark_in state.waves name ≡ Some cancelled → is_cancelled_in state name ≡ cancelled
cancelled_by_mark state name cancelled is = by (wave_from 0 state.waves name) (sym (mark_in-found 0 state.waves name) ∙ is)
  where
    by : (found : Option (ℕ × Wave)) → option_map (λ (f : ℕ × Wave). is_cancelled f.1.state) found ≡ Some cancelled
        → option_map_or (λ (f : ℕ × Wave). is_cancelled f.1.state) found false ≡ cancelled
    by None none = absurd (cc none)
    by (Some f) some = cc some

-- what is found stays where more waves come
found_mark-append : (ms more : List Mark) (name : List ℕ) (cancelled : Bool) → found_mark ms name ≡ Some cancelled
    → found_mark (ms ++ more) name ≡ Some cancelled
found_mark-append [] more name cancelled is = absurd (cc is)
found_mark-append (m ∷ ms) more name cancelled is = by (bytes_eq m.0 name) (found_mark-append ms more name cancelled) is
  where
    by : (test : Bool) → (found_mark ms name ≡ Some cancelled → found_mark (ms ++ more) name ≡ Some cancelled)
        → (if test then Some m.1 else found_mark ms name) ≡ Some cancelled → (if test then Some m.1 else found_mark (ms ++ more) name) ≡ Some cancelled
    by true rest here = here
    by false rest later = rest later

marks_of-append : (waves more : List Wave) → marks_of (waves ++ more) ≡ marks_of waves ++ marks_of more
marks_of-append [] more = refl
marks_of-append (w ∷ waves) more = ap (λ ms. mark_of w ∷ ms) (marks_of-append waves more)

-- a command asks to cancel the wave of a name, and a reply says that a wave was cancelled
abbrev asks : List ℕ → Command → Bool
asks name (command.Cancel other) = bytes_eq other name
asks name other = false

abbrev says : Reply → Bool
says reply.Cancelled = true
says other = false

never : (b : Bool) → (b && false) ≡ false
never true = refl
never false = refl

-- a wave's mark after a step: it is cancelled where the command cancels it, or where it was
abbrev IsMarked : List ℕ → Bool → Bool → Stepped → Type 0
IsMarked name asked cancelled stepped = mark_in stepped.state.waves name ≡ Some ((asked && says stepped.reply) || cancelled)

unchanged : (state : State) (name : List ℕ) (asked cancelled : Bool) (why : Reply) → says why ≡ false → mark_in state.waves name ≡ Some cancelled
    → IsMarked name asked cancelled (refuse state why)
unchanged state name asked cancelled why silent is = is ∙ ap (λ (b : Bool). Some (b || cancelled)) (sym (ap (λ b. asked && b) silent ∙ never asked))

-- a wave that is given up
given_up : (state : State) (other name : List ℕ) (number : ℕ) (w : Wave) (cancelled same : Bool) → wave_from 0 state.waves other ≡ Some (number, w)
    → bytes_eq other name ≡ same → mark_in state.waves name ≡ Some cancelled → IsMarked name same cancelled (give_up state number w)
given_up state other name number w cancelled true found same is =
    let changed : Wave = record w { state = wave.Cancelled } in
    let own : other ≡ name = (bytes_eq-Decides other name).0 same in
    marked (slice_set state.waves number changed) name number changed true
    (subst (λ n. wave_from 0 (slice_set state.waves number changed) n ≡ Some (number, changed)) own (next_is_found state other number w changed found refl))
    refl
given_up state other name number w cancelled false found same is =
    let changed : Wave = record w { state = wave.Cancelled } in
    let named : w.name ≡ other = found_named 0 state.waves other (number, w) found in
    let apart : bytes_eq w.name name ≡ false = ap (λ n. bytes_eq n name) named ∙ same in
    mark_in-found 0 (slice_set state.waves number changed) name
    ∙ ap (option_map (λ (f : ℕ × Wave). is_cancelled f.1.state))
    (found_put_other 0 state.waves name number w changed (wave_found state.waves other (number, w) found) refl apart)
    ∙ sym (mark_in-found 0 state.waves name) ∙ is

either : (name : List ℕ) (asked cancelled test : Bool) (a b : Stepped) → IsMarked name asked cancelled a → IsMarked name asked cancelled b
    → IsMarked name asked cancelled (if test then a else b)
either name asked cancelled true a b first second = first
either name asked cancelled false a b first second = second

cancel_marks : (state : State) (other name : List ℕ) (number : ℕ) (w : Wave) (s : WaveState) (cancelled : Bool)
    → wave_from 0 state.waves other ≡ Some (number, w) → mark_in state.waves name ≡ Some cancelled
    → IsMarked name (bytes_eq other name) cancelled (cancel state number w s)
cancel_marks state other name number w wave.Submitted cancelled found is = given_up state other name number w cancelled _ found refl is
cancel_marks state other name number w wave.Allotted cancelled found is = given_up state other name number w cancelled _ found refl is
cancel_marks state other name number w wave.Released cancelled found is =
    either name (bytes_eq other name) cancelled w.picked (refuse state reply.Picking) (give_up state number w)
    (unchanged state name (bytes_eq other name) cancelled reply.Picking refl is) (given_up state other name number w cancelled _ found refl is)
cancel_marks state other name number w done cancelled found is = unchanged state name (bytes_eq other name) cancelled (reply.WrongState done) refl is

-- each command
step_marks : (opening : Opening) (state : State) (asked : Command) (name : List ℕ) (cancelled : Bool) → mark_in state.waves name ≡ Some cancelled
    → IsMarked name (asks name asked) cancelled (step opening state asked)
step_marks opening state (command.Submit other orders) name cancelled is =
    option_map_or-both (λ (s : Stepped). mark_in s.state.waves name ≡ Some cancelled) (refuse state) (submit_fault opening state other orders)
    (record { reply = reply.Submitted; state = add_wave other orders state }) (λ why refused. is)
    (λ fine. ap (λ ms. found_mark ms name) (marks_of-append state.waves _) ∙ found_mark-append (marks_of state.waves) _ name cancelled is)
step_marks opening state (command.Allot other) name cancelled is = ap (λ ms. found_mark ms name) (allotment_leaves opening state other) ∙ is
step_marks opening state (command.Release other) name cancelled is = ap (λ ms. found_mark ms name) (release_command_leaves opening state other) ∙ is
step_marks opening state (command.Cancel other) name cancelled is =
    option_map_or-both (IsMarked name (bytes_eq other name) cancelled) (λ (f : ℕ × Wave). cancel state f.0 f.1 f.1.state) (wave_from 0 state.waves other) _
    (λ f found. cancel_marks state other name f.0 f.1 f.1.state cancelled found is)
    (λ none. unchanged state name (bytes_eq other name) cancelled reply.UnknownWave refl is)
step_marks opening state (command.Pick other order location quantity) name cancelled is =
    ap (λ ms. found_mark ms name) (pick_leaves opening state other order location quantity) ∙ is
step_marks opening state (command.Missing other order location quantity) name cancelled is =
    ap (λ ms. found_mark ms name) (missing_leaves opening state other order location quantity) ∙ is
step_marks opening state (command.Receive location article quantity) name cancelled is =
    ap (λ ms. found_mark ms name) (receipt_leaves opening state location article quantity) ∙ is

-- an entry cancels the wave of a name
abbrev cancels : List ℕ → Entry → Bool
cancels name entry = asks name entry.command && says entry.reply

or_turn : (b later cancelled : Bool) → (later || (b || cancelled)) ≡ ((b || later) || cancelled)
or_turn true true cancelled = refl
or_turn true false cancelled = refl
or_turn false later cancelled = or_assoc later cancelled
  where
    or_assoc : (a c : Bool) → (a || (false || c)) ≡ ((false || a) || c)
    or_assoc true c = refl
    or_assoc false c = refl

-- entries, one after the other
entries_mark : (opening : Opening) (number : ℕ) (state : State) (entries : List Entry) (name : List ℕ) (cancelled : Bool)
    → IsLegalFrom opening number state entries → mark_in state.waves name ≡ Some cancelled
    → mark_in (state_from opening state entries).waves name ≡ Some (list_any (cancels name) entries || cancelled)
entries_mark opening number state [] name cancelled legal is = is
entries_mark opening number state (entry ∷ entries) name cancelled legal is =
    let here = step_marks opening state entry.command name cancelled is
    ∙ ap (λ r. Some ((asks name entry.command && says r) || cancelled)) (sym legal.1) in
    entries_mark opening (number + 1) (step opening state entry.command).state entries name (cancels name entry || cancelled) legal.2 here
    ∙ ap (λ (b : Bool). Some b) (or_turn (cancels name entry) (list_any (cancels name) entries) cancelled)

-- a wave that a release sent out isn't cancelled
abbrev IsOut : List ℕ → Stepped → Type 0
IsOut name stepped = stepped.reply ≡ reply.Released → mark_in stepped.state.waves name ≡ Some false

put_out : (state : State) (name : List ℕ) (number : ℕ) (w : Wave) → wave_from 0 state.waves name ≡ Some (number, w)
    → mark_in (slice_set state.waves number (record w { state = wave.Released })) name ≡ Some false
put_out state name number w found =
    let out : Wave = record w { state = wave.Released } in
    marked (slice_set state.waves number out) name number out false (next_is_found state name number w out found refl) refl

release_out : (opening : Opening) (state : State) (name : List ℕ) (number : ℕ) (w : Wave) (s : WaveState) → wave_from 0 state.waves name ≡ Some (number, w)
    → IsOut name (release opening state number w s)
release_out opening state name number w wave.Submitted found =
    option_map_or-both (IsOut name) (refuse_short opening state w) (short_article opening state.rows w.orders None) _
    (λ article short said. absurd (cc said)) (λ covered said. put_out state name number w found)
release_out opening state name number w wave.Allotted found = λ said. put_out state name number w found
release_out opening state name number w other found = λ said. absurd (cc said)

goes_out : (opening : Opening) (state : State) (name : List ℕ) → IsOut name (step opening state (command.Release name))
goes_out opening state name =
    option_map_or-both (IsOut name) (λ (f : ℕ × Wave). release opening state f.0 f.1 f.1.state) (wave_from 0 state.waves name) _
    (λ f found. release_out opening state name f.0 f.1 f.1.state found) (λ none said. absurd (cc said))

-- the entries after a place
abbrev after_place : ℕ → List Entry → List Entry
after_place place [] = []
after_place zero (entry ∷ entries) = entries
after_place (suc place) (entry ∷ entries) = after_place place entries

-- the mark of a wave in the end, by the entries after the one by which it went out
out_mark : (opening : Opening) (number : ℕ) (state : State) (entries : List Entry) (place : ℕ) (name : List ℕ) → IsLegalFrom opening number state entries
    → GoesOutAt entries place name
    → mark_in (state_from opening state entries).waves name ≡ Some (list_any (cancels name) (after_place place entries) || false)
out_mark opening number state [] place name legal out = absurd (cc out.there)
out_mark opening number state (entry ∷ entries) zero name legal out =
    let own : entry ≡ out.entry = cc out.there in
    let asked : entry.command ≡ command.Release name = ap (λ (e : Entry). e.command) own ∙ out.asks in
    let said : (step opening state (command.Release name)).reply ≡ reply.Released =
    ap (λ c. (step opening state c).reply) (sym asked) ∙ sym legal.1 ∙ ap (λ (e : Entry). e.reply) own ∙ out.done in
    let now : mark_in (step opening state entry.command).state.waves name ≡ Some false =
    ap (λ c. mark_in (step opening state c).state.waves name) asked ∙ goes_out opening state name said in
    entries_mark opening (number + 1) (step opening state entry.command).state entries name false legal.2 now
out_mark opening number state (entry ∷ entries) (suc place) name legal out =
    out_mark opening (number + 1) (step opening state entry.command).state entries place name legal.2
    (record { entry = out.entry; there = out.there; asks = out.asks; done = out.done })

-- a command that asks to cancel the wave of a name is a cancel of it
asks_it : (name : List ℕ) (asked : Command) → asks name asked ≡ true → asked ≡ command.Cancel name
asks_it name (command.Cancel other) is = ap (λ n. command.Cancel n) ((bytes_eq-Decides other name).0 is)
asks_it name other is = absurd (cc is)

both : (a b : Bool) → (a && b) ≡ true → (a ≡ true) × (b ≡ true)
both true b is = (refl, is)
both false b is = absurd (cc is)

says_it : (answer : Reply) → says answer ≡ true → answer ≡ reply.Cancelled
says_it reply.Cancelled is = refl
says_it other is = absurd (cc is)

-- an entry of a list that cancels the wave
record CancelAt (entries : List Entry) (name : List ℕ) : Type 0 where
  place : ℕ
  entry : Entry
  there : slice_get entries place ≡ Some entry
  done : cancels name entry ≡ true

any_at : (entries : List Entry) (name : List ℕ) → list_any (cancels name) entries ≡ true → CancelAt entries name
any_at [] name any = absurd (cc any)
any_at (entry ∷ entries) name any = by (cancels name entry) refl any (any_at entries name)
  where
    by : (here : Bool) → cancels name entry ≡ here → (here || list_any (cancels name) entries) ≡ true
        → (list_any (cancels name) entries ≡ true → CancelAt entries name) → CancelAt (entry ∷ entries) name
    by true is any rest = record { place = 0; entry = entry; there = refl; done = is }
    by false is any rest = let found = rest any in record { place = suc found.place; entry = found.entry; there = found.there; done = found.done }

any_from : (entries : List Entry) (name : List ℕ) (place : ℕ) (entry : Entry) → slice_get entries place ≡ Some entry → cancels name entry ≡ true
    → list_any (cancels name) entries ≡ true
any_from [] name place entry there done = absurd (cc there)
any_from (first ∷ entries) name zero entry there done =
    let own : first ≡ entry = cc there in
    ap (λ b. b || list_any (cancels name) entries) (ap (cancels name) own ∙ done)
any_from (first ∷ entries) name (suc place) entry there done = or_true (cancels name first) (any_from entries name place entry there done)
  where
    or_true : (b : Bool) → list_any (cancels name) entries ≡ true → (b || list_any (cancels name) entries) ≡ true
    or_true true any = refl
    or_true false any = any

-- what stands after a place, by its place in the whole
later_at : (place k later : ℕ) (entries : List Entry) (entry : Entry) → later ≡ place + k + 1 → slice_get (after_place place entries) k ≡ Some entry
    → slice_get entries later ≡ Some entry
later_at place k later [] entry e there = absurd (cc there)
later_at zero k later (first ∷ entries) entry e there =
    let at : later ≡ suc k = omega (arith, e) in
    ap (slice_get (first ∷ entries)) at ∙ there
later_at (suc place) k later (first ∷ entries) entry e there =
    let at : later ≡ suc (place + k + 1) = omega (arith, e) in
    ap (slice_get (first ∷ entries)) at ∙ later_at place k (place + k + 1) entries entry refl there

later_any : (place later : ℕ) (entries : List Entry) (name : List ℕ) (entry : Entry) → place < later → slice_get entries later ≡ Some entry
    → cancels name entry ≡ true → list_any (cancels name) (after_place place entries) ≡ true
later_any place later [] name entry after there done = absurd (cc there)
later_any zero zero (first ∷ entries) name entry after there done = absurd (omega (arith, after))
later_any zero (suc later) (first ∷ entries) name entry after there done = any_from entries name later entry there done
later_any (suc place) zero (first ∷ entries) name entry after there done = absurd (omega (arith, after))
later_any (suc place) (suc later) (first ∷ entries) name entry after there done =
    let within : place < later = omega (arith, after) in
    later_any place later entries name entry within there done

-- by a later entry that cancels it
cancelled_after : (entries : List Entry) (number : ℕ) (name : List ℕ) → (list_any (cancels name) (after_place number entries) || false) ≡ true
    → IsCancelledAfter entries number name
cancelled_after entries number name any =
    let found = any_at (after_place number entries) name (alone (list_any (cancels name) (after_place number entries)) any) in
    let parts = both (asks name found.entry.command) (says found.entry.reply) found.done in
    record {
      later = number + found.place + 1;
      entry = found.entry;
      after = omega arith;
      there = later_at number found.place (number + found.place + 1) entries found.entry refl found.there;
      asks = asks_it name found.entry.command parts.0;
      done = says_it found.entry.reply parts.1;
    }
  where
    alone : (b : Bool) → (b || false) ≡ true → b ≡ true
    alone true is = refl
    alone false is = absurd (cc is)

it_cancels : (name : List ℕ) (entry : Entry) → entry.command ≡ command.Cancel name → entry.reply ≡ reply.Cancelled → cancels name entry ≡ true
it_cancels name entry asked done =
    let own : bytes_eq name name ≡ true = (bytes_eq-Decides name name).1 refl in
    ap (λ c. asks name c && says entry.reply) asked ∙ (ap (λ r. bytes_eq name name && says r) done ∙ ap (λ b. b && true) own)

any_after : (entries : List Entry) (number : ℕ) (name : List ℕ) → IsCancelledAfter entries number name
    → (list_any (cancels name) (after_place number entries) || false) ≡ true
any_after entries number name by =
    ap (λ b. b || false) (later_any number by.later entries name by.entry by.after by.there (it_cancels name by.entry by.asks by.done))

-- a wave that went out in a legal history is cancelled after it exactly where a later entry cancels it
pub cancelled_by_a_later_entry : (history : History) (number : ℕ) (name : List ℕ) → IsLegal history → GoesOutAt history.entries number name
    → IsTrue (is_cancelled_in (state_after history) name) ↔ IsCancelledAfter history.entries number name
cancelled_by_a_later_entry history number name legal out =
    let is = cancelled_by_mark (state_after history) name _
    (out_mark history.opening 0 (opening_state history.opening) history.entries number name legal out) in
    (λ cancelled. cancelled_after history.entries number name (sym is ∙ cancelled), λ by. is ∙ any_after history.entries number name by)
