-- The part of one desk in what all desks did after a history to begin with. A call is the number of its desk with the
-- entry that it added.
use Rattle.std.specs.Prelude.{◌≡◌, ℕ, ◌+◌, ◌==◌, List, [], ◌∷◌, if◌then◌else◌, length, map}
use Rattle.std.specs.List.{All, flat_map}
use Rattle.wp_desk.specs.GoingOn.{going_on}
use Rattle.wp_machine.specs.Outcome.{outcome_of, refill_in, released_in}
use Rattle.wp_machine.specs.declared.outcome.Outcome.{Outcome}
use Rattle.wp_machine.specs.declared.outcome.Refill.{Refill}
use Rattle.wp_machine.specs.declared.outcome.WaveHolds.{WaveHolds}
use Rattle.wp_model.specs.History.{History, state_after}
use Rattle.wp_model.specs.Opening.{Opening}
use Rattle.wp_model.specs.State.{State}
use Rattle.wp_model.specs.Step.{step}
use Rattle.wp_model.specs.declared.command.Command.{Command}
use Rattle.wp_model.specs.declared.entry.Entry.{Entry}
use Rattle.wp_turn.specs.Calls.{calls_of, entries_of}

-- the history that calls have made of one to begin with
abbrev pub history_of : History → List (ℕ × Entry) → History
history_of start calls = going_on start (entries_of calls)

-- what the steps of one desk's calls tell, from a state on, where the first call has this number
abbrev pub told_from : ℕ → Opening → ℕ → State → List (ℕ × Entry) → List Outcome
told_from desk opening number state [] = []
told_from desk opening number state (call ∷ calls) =
    let told = outcome_of number state call.1.command (step opening state call.1.command) in
    let others = told_from desk opening (number + 1)
    (step opening state call.1.command).state calls in if call.0 == desk then told ∷ others else others

-- what the steps of one desk's calls tell after a history to begin with
abbrev pub told_to : ℕ → History → List (ℕ × Entry) → List Outcome
told_to desk start calls = told_from desk start.opening (length start.entries) (state_after start) calls

-- the waves that a desk sent out
abbrev pub waves_by : History → List (ℕ × Entry) → ℕ → List WaveHolds
waves_by start calls desk = flat_map released_in (told_to desk start calls)

-- the refills of a desk's losses
abbrev pub refills_by : History → List (ℕ × Entry) → ℕ → List Refill
refills_by start calls desk = flat_map refill_in (told_to desk start calls)

-- the calls of a desk are the answers to these commands, and their entries are under its number
pub record HasAsked (calls : List (ℕ × Entry)) (desk : ℕ) (commands : List Command) : Type 0 where
  pub commands_are : map (λ entry. entry.command) (calls_of desk calls) ≡ commands
  pub named : All (λ entry. entry.desk ≡ desk) (calls_of desk calls)
