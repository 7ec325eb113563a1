-- Each wave that a history sends out goes out by the entry with its number.
use Rattle.std.proofs.Common.{◌≡◌, ◌∙◌, refl, sym, ap, subst, ℕ, suc, ◌+◌, ◌↔◌, IsTrue, List, [], ◌∷◌, Option, Some, None, All, arith}
use Rattle.std.proofs.lemmas.List.Concat.{flat_map-cons}
use Rattle.std.proofs.lemmas.List.Elements.{All-append, All-cons, All-nil, All-weaker}
use Rattle.std.specs.List.{flat_map}
use Rattle.std.specs.Option.{option_map_or}
use Rattle.wp_model.proofs.Cancelled.{cancelled_by_a_later_entry}
use Rattle.wp_model.specs.Cancelled.{GoesOutAt, IsCancelledAfter}
use Rattle.wp_model.specs.History.{History, IsLegal, IsLegalFrom}
use Rattle.wp_model.specs.Opening.{Opening}
use Rattle.wp_model.specs.State.{State, Wave, opening_state}
use Rattle.wp_model.specs.Step.{Stepped, step, wave_from}
use Rattle.wp_model.specs.declared.command.Command.{Command}
use Rattle.wp_model.specs.declared.command.Command.TheVariants as command
use Rattle.wp_model.specs.declared.entry.Entry.{Entry}
use Rattle.wp_model.specs.declared.reply.Reply.{Reply}
use Rattle.wp_model.specs.declared.reply.Reply.TheVariants as reply
use Rattle.wp_machine.specs.Outcome.{is_cancelled_later, missing_outcome, outcome_of, outcomes_from, release_outcome, released_in, released_of}
use Rattle.wp_machine.specs.declared.outcome.Outcome.{Outcome}
use Rattle.wp_machine.specs.declared.outcome.Outcome.TheVariants as outcome
use Rattle.wp_machine.specs.declared.outcome.Refill.{Refill}
use Rattle.wp_machine.specs.declared.outcome.WaveHolds.{WaveHolds}

-- a step that tells a wave is a release of it, and was done
record IsRelease (number : ℕ) (asked : Command) (answer : Reply) (out : WaveHolds) : Type 0 where
  asks : asked ≡ command.Release out.wave
  done : answer ≡ reply.Released
  numbered : out.number ≡ number

released_told : (found : Option (ℕ × Wave)) (number : ℕ) (name : List ℕ) (f : ℕ × Wave → WaveHolds) (out : WaveHolds)
    → ((x : ℕ × Wave) → ((f x).wave ≡ name) × ((f x).number ≡ number))
    → option_map_or (λ x. outcome.Released (f x)) found outcome.Plain ≡ outcome.Released out → (out.wave ≡ name) × (out.number ≡ number)
released_told None number name f out each told = absurd (cc told)
released_told (Some x) number name f out each told =
    let same : f x ≡ out = cc told in
    (ap (λ (o : WaveHolds). o.wave) (sym same) ∙ (each x).0, ap (λ (o : WaveHolds). o.number) (sym same) ∙ (each x).1)

release_tells : (number : ℕ) (after : State) (name : List ℕ) (answer : Reply) (out : WaveHolds)
    → release_outcome number after name answer ≡ outcome.Released out → IsRelease number (command.Release name) answer out
release_tells number after name reply.Released out told =
    let is = released_told (wave_from 0 after.waves name) number name _ out (λ x. (refl, refl)) told in
    record { asks = ap (λ n. command.Release n) (sym is.0); done = refl; numbered = is.1 }
release_tells number after name other out told = absurd (cc told)

-- what is told of a loss is no wave
refill_tells_none : (found : Option (ℕ × Wave)) (f : ℕ × Wave → Refill) (out : WaveHolds)
    → option_map_or (λ x. outcome.Refilled (f x)) found outcome.Plain ≡ outcome.Released out → ⊥
refill_tells_none None f out told = absurd (cc told)
refill_tells_none (Some x) f out told = absurd (cc told)

loss_tells_none : (number : ℕ) (before after : State) (name order : List ℕ) (answer : Reply) (out : WaveHolds)
    → missing_outcome number before after name order answer ≡ outcome.Released out → ⊥
loss_tells_none number before after name order (reply.Refilled units) out told = refill_tells_none (wave_from 0 after.waves name) _ out told
loss_tells_none number before after name order other out told = absurd (cc told)

step_tells : (number : ℕ) (before : State) (asked : Command) (stepped : Stepped) (out : WaveHolds)
    → outcome_of number before asked stepped ≡ outcome.Released out → IsRelease number asked stepped.reply out
step_tells number before (command.Release name) stepped out told = release_tells number stepped.state name stepped.reply out told
step_tells number before (command.Missing name order location quantity) stepped out told =
    absurd (loss_tells_none number before stepped.state name order stepped.reply out told)
step_tells number before (command.Submit name orders) stepped out told = absurd (cc told)
step_tells number before (command.Allot name) stepped out told = absurd (cc told)
step_tells number before (command.Cancel name) stepped out told = absurd (cc told)
step_tells number before (command.Pick name order location quantity) stepped out told = absurd (cc told)
step_tells number before (command.Receive location article quantity) stepped out told = absurd (cc told)

-- a wave goes out by the entry with its number, where the first entry has this one
record GoesOutIn (first : ℕ) (entries : List Entry) (out : WaveHolds) : Type 0 where
  place : ℕ
  numbered : out.number ≡ first + place
  entry : GoesOutAt entries place out.wave

told_here : (opening : Opening) (first : ℕ) (state : State) (entry : Entry) (entries : List Entry) (told : Outcome)
    → entry.reply ≡ (step opening state entry.command).reply → outcome_of first state entry.command (step opening state entry.command) ≡ told
    → All (GoesOutIn first (entry ∷ entries)) (released_in told)
told_here opening first state entry entries outcome.Plain replied is = All-nil (GoesOutIn first (entry ∷ entries))
told_here opening first state entry entries (outcome.Refilled refill) replied is = All-nil (GoesOutIn first (entry ∷ entries))
told_here opening first state entry entries (outcome.Released out) replied is =
    let release = step_tells first state entry.command (step opening state entry.command) out is in
    All-cons (GoesOutIn first (entry ∷ entries)) out [] (record {
      place = 0;
      numbered = omega (arith, release.numbered);
      entry = record { entry = entry; there = refl; asks = release.asks; done = replied ∙ release.done };
    }) (All-nil (GoesOutIn first (entry ∷ entries)))

each_goes_out : (opening : Opening) (first : ℕ) (state : State) (entries : List Entry) → IsLegalFrom opening first state entries
    → All (GoesOutIn first entries) (flat_map released_in (outcomes_from opening first state entries))
each_goes_out opening first state [] legal = All-nil (GoesOutIn first [])
each_goes_out opening first state (entry ∷ entries) legal =
    let stepped = step opening state entry.command in
    let told = outcome_of first state entry.command stepped in
    let more = outcomes_from opening (first + 1) stepped.state entries in
    let whole = entry ∷ entries in
    let rest : All (GoesOutIn first whole) (flat_map released_in more)
    = All-weaker (GoesOutIn (first + 1) entries) (GoesOutIn first whole) (λ out is. record {
      place = suc is.place;
      numbered = omega (arith, is.numbered);
      entry = record { entry = is.entry.entry; there = is.entry.there; asks = is.entry.asks; done = is.entry.done };
    }) (flat_map released_in more) (each_goes_out opening (first + 1) stepped.state entries legal.2) in
    subst (All (GoesOutIn first whole)) (sym (flat_map-cons released_in told more))
    (All-append (GoesOutIn first whole) (released_in told) (flat_map released_in more)
    (told_here opening first state entry entries told legal.1 refl) rest)

-- each wave that a history sends out goes out by the entry with its number
pub go_out_by_entries : (history : History) → IsLegal history → All (λ out. GoesOutAt history.entries out.number out.wave) (released_of history)
go_out_by_entries history legal =
    All-weaker (GoesOutIn 0 history.entries) (λ out. GoesOutAt history.entries out.number out.wave)
    (λ out is.
    let same : out.number ≡ is.place = omega (arith, is.numbered) in
    subst (λ n. GoesOutAt history.entries n out.wave) (sym same) is.entry)
    (released_of history) (each_goes_out history.opening 0 (opening_state history.opening) history.entries legal)

-- and is cancelled later exactly where a later entry cancels it
pub cancelled_later_by_entries : (history : History) → IsLegal history
    → All (λ out. IsTrue (is_cancelled_later history out) ↔ IsCancelledAfter history.entries out.number out.wave) (released_of history)
cancelled_later_by_entries history legal =
    All-weaker (λ out. GoesOutAt history.entries out.number out.wave)
    (λ out. IsTrue (is_cancelled_later history out) ↔ IsCancelledAfter history.entries out.number out.wave)
    (λ out is. cancelled_by_a_later_entry history out.number out.wave legal is) (released_of history) (go_out_by_entries history legal)
