-- What a step tells beside its reply comes with the replies that call for it, and with no other.
use Rattle.std.proofs.Common.{◌≡◌, ◌∙◌, ◌⊎◌, inl, inr, refl, sym, ap, ℕ, true, false, List, [], Option, Some, None}
use Rattle.std.specs.Option.{is_some, option_map_or}
use Rattle.wp_model.proofs.Replies.{done_or_refused}
use Rattle.wp_model.proofs.WaveNames.{refilled_is_known, released_is_known}
use Rattle.wp_model.specs.Opening.{Opening}
use Rattle.wp_model.specs.State.{State, Wave}
use Rattle.wp_model.specs.Step.{is_refusal, says_refilled, says_released, step, wave_from}
use Rattle.wp_model.specs.declared.command.Command.{Command}
use Rattle.wp_model.specs.declared.command.Command.TheVariants as command
use Rattle.wp_model.specs.declared.reply.Reply.{Reply}
use Rattle.wp_model.specs.declared.reply.Reply.TheVariants as reply
use Rattle.wp_machine.specs.Outcome.{missing_outcome, outcome_of, release_outcome, tells_holds, tells_refill}
use Rattle.wp_machine.specs.declared.outcome.Outcome.{Outcome}
use Rattle.wp_machine.specs.declared.outcome.Outcome.TheVariants as outcome

-- a reply calls for nothing beside it
record IsSilent (number : ℕ) (before after : State) (name order : List ℕ) (answer : Reply) : Type 0 where
  released : says_released answer ≡ false
  refilled : says_refilled answer ≡ false
  no_holds : release_outcome number after name answer ≡ outcome.Plain
  no_refill : missing_outcome number before after name order answer ≡ outcome.Plain

-- a refusal does so
refusal_is_silent : (number : ℕ) (before after : State) (name order : List ℕ) (answer : Reply) → is_refusal answer ≡ true
    → IsSilent number before after name order answer
refusal_is_silent number before after name order reply.Submitted refuses = absurd (cc refuses)
refusal_is_silent number before after name order reply.Allotted refuses = absurd (cc refuses)
refusal_is_silent number before after name order reply.Released refuses = absurd (cc refuses)
refusal_is_silent number before after name order reply.Cancelled refuses = absurd (cc refuses)
refusal_is_silent number before after name order reply.Picked refuses = absurd (cc refuses)
refusal_is_silent number before after name order reply.Received refuses = absurd (cc refuses)
refusal_is_silent number before after name order (reply.Refilled units) refuses = absurd (cc refuses)
refusal_is_silent number before after name order (reply.Lost article units) refuses = absurd (cc refuses)
refusal_is_silent number before after name order reply.NoOrders refuses = record { released = refl; refilled = refl; no_holds = refl; no_refill = refl }
refusal_is_silent number before after name order (reply.WaveFull orders) refuses =
    record { released = refl; refilled = refl; no_holds = refl; no_refill = refl }
refusal_is_silent number before after name order reply.KnownWave refuses = record { released = refl; refilled = refl; no_holds = refl; no_refill = refl }
refusal_is_silent number before after name order (reply.UnknownOrder named) refuses =
    record { released = refl; refilled = refl; no_holds = refl; no_refill = refl }
refusal_is_silent number before after name order (reply.OrderTwice named) refuses =
    record { released = refl; refilled = refl; no_holds = refl; no_refill = refl }
refusal_is_silent number before after name order (reply.OrderTaken named w) refuses =
    record { released = refl; refilled = refl; no_holds = refl; no_refill = refl }
refusal_is_silent number before after name order (reply.OverCart named units) refuses =
    record { released = refl; refilled = refl; no_holds = refl; no_refill = refl }
refusal_is_silent number before after name order reply.UnknownWave refuses = record { released = refl; refilled = refl; no_holds = refl; no_refill = refl }
refusal_is_silent number before after name order (reply.WrongState state) refuses =
    record { released = refl; refilled = refl; no_holds = refl; no_refill = refl }
refusal_is_silent number before after name order (reply.Short article wanted free) refuses =
    record { released = refl; refilled = refl; no_holds = refl; no_refill = refl }
refusal_is_silent number before after name order reply.Picking refuses = record { released = refl; refilled = refl; no_holds = refl; no_refill = refl }
refusal_is_silent number before after name order (reply.NotHeld location) refuses =
    record { released = refl; refilled = refl; no_holds = refl; no_refill = refl }
refusal_is_silent number before after name order (reply.TooMuch held) refuses = record { released = refl; refilled = refl; no_holds = refl; no_refill = refl }
refusal_is_silent number before after name order reply.NoRow refuses = record { released = refl; refilled = refl; no_holds = refl; no_refill = refl }
refusal_is_silent number before after name order (reply.OtherArticle article) refuses =
    record { released = refl; refilled = refl; no_holds = refl; no_refill = refl }
refusal_is_silent number before after name order (reply.TooMany on_hand) refuses =
    record { released = refl; refilled = refl; no_holds = refl; no_refill = refl }

holds_told : (found : Option (ℕ × Wave)) (f : ℕ × Wave → Outcome) → ((x : ℕ × Wave) → tells_holds (f x) ≡ true)
    → tells_holds (option_map_or f found outcome.Plain) ≡ is_some found
holds_told None f each = refl
holds_told (Some x) f each = each x

refill_told : (found : Option (ℕ × Wave)) (f : ℕ × Wave → Outcome) → ((x : ℕ × Wave) → tells_refill (f x) ≡ true)
    → tells_refill (option_map_or f found outcome.Plain) ≡ is_some found
refill_told None f each = refl
refill_told (Some x) f each = each x

no_holds_told : (found : Option (ℕ × Wave)) (f : ℕ × Wave → Outcome) → ((x : ℕ × Wave) → tells_holds (f x) ≡ false)
    → tells_holds (option_map_or f found outcome.Plain) ≡ false
no_holds_told None f each = refl
no_holds_told (Some x) f each = each x

no_refill_told : (found : Option (ℕ × Wave)) (f : ℕ × Wave → Outcome) → ((x : ℕ × Wave) → tells_refill (f x) ≡ false)
    → tells_refill (option_map_or f found outcome.Plain) ≡ false
no_refill_told None f each = refl
no_refill_told (Some x) f each = each x

-- any state
abbrev nowhere : State
nowhere = record { rows = []; waves = []; held = λ wave order row. 0 }

-- a reply that says that another command was done, or refuses, is of no release and of no refill
not_released : (answer known : Reply) → (answer ≡ known) ⊎ (is_refusal answer ≡ true) → says_released known ≡ false → false ≡ says_released answer
not_released answer known (inl same) other = sym (ap says_released same ∙ other)
not_released answer known (inr refuses) other = sym (refusal_is_silent 0 nowhere nowhere [] [] answer refuses).released

not_refilled : (answer known : Reply) → (answer ≡ known) ⊎ (is_refusal answer ≡ true) → says_refilled known ≡ false → false ≡ says_refilled answer
not_refilled answer known (inl same) other = sym (ap says_refilled same ∙ other)
not_refilled answer known (inr refuses) other = sym (refusal_is_silent 0 nowhere nowhere [] [] answer refuses).refilled

-- what a wave holds is told exactly where it went out
pub holds_come_with_released : (opening : Opening) (number : ℕ) (state : State) (asked : Command)
    → tells_holds (outcome_of number state asked (step opening state asked)) ≡ says_released (step opening state asked).reply
holds_come_with_released opening number state (command.Submit name orders) =
    not_released _ reply.Submitted (done_or_refused opening state (command.Submit name orders)) refl
holds_come_with_released opening number state (command.Allot name) =
    not_released _ reply.Allotted (done_or_refused opening state (command.Allot name)) refl
holds_come_with_released opening number state (command.Release name) =
    let after = (step opening state (command.Release name)).state in
    elim (done_or_refused opening state (command.Release name)) [
      | inl done ↦ ap (λ answer. tells_holds (release_outcome number after name answer)) done
          ∙ (holds_told (wave_from 0 after.waves name) _ (λ found. refl)
          ∙ (released_is_known opening state name done ∙ sym (ap says_released done)))
      | inr refuses ↦
          let silent = refusal_is_silent number state after name name _ refuses in
          ap tells_holds silent.no_holds ∙ sym silent.released
    ]
holds_come_with_released opening number state (command.Cancel name) =
    not_released _ reply.Cancelled (done_or_refused opening state (command.Cancel name)) refl
holds_come_with_released opening number state (command.Pick name order location quantity) =
    not_released _ reply.Picked (done_or_refused opening state (command.Pick name order location quantity)) refl
holds_come_with_released opening number state (command.Missing name order location quantity) =
    let after = (step opening state (command.Missing name order location quantity)).state in
    elim (done_or_refused opening state (command.Missing name order location quantity)) [
      | inl done ↦ elim done [
        | inl held ↦ ap (λ answer. tells_holds (missing_outcome number state after name order answer)) held
            ∙ (no_holds_told (wave_from 0 after.waves name) _ (λ found. refl) ∙ sym (ap says_released held))
        | inr lost ↦ ap (λ answer. tells_holds (missing_outcome number state after name order answer)) lost.1 ∙ sym (ap says_released lost.1)
      ]
      | inr refuses ↦
          let silent = refusal_is_silent number state after name order _ refuses in
          ap tells_holds silent.no_refill ∙ sym silent.released
    ]
holds_come_with_released opening number state (command.Receive location article quantity) =
    not_released _ reply.Received (done_or_refused opening state (command.Receive location article quantity)) refl

-- a refill is told exactly where lost units are held elsewhere
pub refills_come_with_refilled : (opening : Opening) (number : ℕ) (state : State) (asked : Command)
    → tells_refill (outcome_of number state asked (step opening state asked)) ≡ says_refilled (step opening state asked).reply
refills_come_with_refilled opening number state (command.Submit name orders) =
    not_refilled _ reply.Submitted (done_or_refused opening state (command.Submit name orders)) refl
refills_come_with_refilled opening number state (command.Allot name) =
    not_refilled _ reply.Allotted (done_or_refused opening state (command.Allot name)) refl
refills_come_with_refilled opening number state (command.Release name) =
    let after = (step opening state (command.Release name)).state in
    elim (done_or_refused opening state (command.Release name)) [
      | inl done ↦ ap (λ answer. tells_refill (release_outcome number after name answer)) done
          ∙ (no_refill_told (wave_from 0 after.waves name) _ (λ found. refl) ∙ sym (ap says_refilled done))
      | inr refuses ↦
          let silent = refusal_is_silent number state after name name _ refuses in
          ap tells_refill silent.no_holds ∙ sym silent.refilled
    ]
refills_come_with_refilled opening number state (command.Cancel name) =
    not_refilled _ reply.Cancelled (done_or_refused opening state (command.Cancel name)) refl
refills_come_with_refilled opening number state (command.Pick name order location quantity) =
    not_refilled _ reply.Picked (done_or_refused opening state (command.Pick name order location quantity)) refl
refills_come_with_refilled opening number state (command.Missing name order location quantity) =
    let after = (step opening state (command.Missing name order location quantity)).state in
    elim (done_or_refused opening state (command.Missing name order location quantity)) [
      | inl done ↦ elim done [
        | inl held ↦ ap (λ answer. tells_refill (missing_outcome number state after name order answer)) held
            ∙ (refill_told (wave_from 0 after.waves name) _ (λ found. refl)
            ∙ (refilled_is_known opening state name order location quantity quantity held ∙ sym (ap says_refilled held)))
        | inr lost ↦ ap (λ answer. tells_refill (missing_outcome number state after name order answer)) lost.1 ∙ sym (ap says_refilled lost.1)
      ]
      | inr refuses ↦
          let silent = refusal_is_silent number state after name order _ refuses in
          ap tells_refill silent.no_refill ∙ sym silent.refilled
    ]
refills_come_with_refilled opening number state (command.Receive location article quantity) =
    not_refilled _ reply.Received (done_or_refused opening state (command.Receive location article quantity)) refl
