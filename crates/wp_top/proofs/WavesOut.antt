-- The waves of which an output has sheets are those that the steps of its new entries tell.
use Rattle.std.proofs.Common.{◌≡◌, ◌∙◌, refl, ap₂, ℕ, ◌+◌, List, [], ◌∷◌, ◌++◌, Option, Some, None, length}
use Rattle.std.proofs.lemmas.List.Concat.{flat_map-cons}
use Rattle.std.specs.List.{flat_map}
use Rattle.std.specs.Option.{option_map_or}
use Rattle.wp_desk.specs.GoingOn.{new_entries, released_after}
use Rattle.wp_machine.specs.Outcome.{missing_outcome, outcome_of, outcomes_from, released_in}
use Rattle.wp_machine.specs.declared.outcome.Outcome.TheVariants as outcome
use Rattle.wp_machine.specs.declared.outcome.Refill.{Refill}
use Rattle.wp_machine.specs.declared.outcome.WaveHolds.{WaveHolds}
use Rattle.wp_model.specs.History.{History, state_after}
use Rattle.wp_model.specs.Opening.{Opening}
use Rattle.wp_model.specs.State.{State, Wave}
use Rattle.wp_model.specs.Step.{Stepped, step, wave_from}
use Rattle.wp_model.specs.declared.command.Command.{Command}
use Rattle.wp_model.specs.declared.command.Command.TheVariants as command
use Rattle.wp_model.specs.declared.entry.Entry.{Entry}
use Rattle.wp_model.specs.declared.reply.Reply.{Reply}
use Rattle.wp_model.specs.declared.reply.Reply.TheVariants as reply
use Rattle.wp_top.specs.Sections.{sent_by, waves_from, waves_out}

-- what is told of a loss is no wave
no_wave : (found : Option (ℕ × Wave)) (f : ℕ × Wave → Refill) → released_in (option_map_or (λ x. outcome.Refilled (f x)) found outcome.Plain) ≡ []
no_wave None f = refl
no_wave (Some x) f = refl

loss_sends_none : (number : ℕ) (before after : State) (name order : List ℕ) (answer : Reply)
    → released_in (missing_outcome number before after name order answer) ≡ []
loss_sends_none number before after name order (reply.Refilled units) = no_wave (wave_from 0 after.waves name) _
loss_sends_none number before after name order other = refl

-- what a step tells of a wave is what its command sends out
step_sends : (number : ℕ) (before : State) (asked : Command) (stepped : Stepped)
    → released_in (outcome_of number before asked stepped) ≡ sent_by number asked stepped
step_sends number before (command.Release name) stepped = refl
step_sends number before (command.Missing name order location quantity) stepped =
    loss_sends_none number before stepped.state name order stepped.reply
step_sends number before (command.Submit name orders) stepped = refl
step_sends number before (command.Allot name) stepped = refl
step_sends number before (command.Cancel name) stepped = refl
step_sends number before (command.Pick name order location quantity) stepped = refl
step_sends number before (command.Receive location article quantity) stepped = refl

entries_send : (opening : Opening) (number : ℕ) (state : State) (entries : List Entry)
    → flat_map released_in (outcomes_from opening number state entries) ≡ waves_from opening number state entries
entries_send opening number state [] = refl
entries_send opening number state (entry ∷ entries) =
    let stepped = step opening state entry.command in
    let told = outcome_of number state entry.command stepped in
    flat_map-cons released_in told (outcomes_from opening (number + 1) stepped.state entries)
    ∙ ap₂ (λ (now later : List WaveHolds). now ++ later) (step_sends number state entry.command stepped)
    (entries_send opening (number + 1) stepped.state entries)

-- so it is with the new entries of a history
pub waves_are : (start history : History) → released_after start (new_entries start history) ≡ waves_out start history
waves_are start history = entries_send start.opening (length start.entries) (state_after start) (new_entries start history)
