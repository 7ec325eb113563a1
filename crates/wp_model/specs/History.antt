-- Legal histories.
use Rattle.std.specs.Prelude.{◌≡◌, ℕ, ◌+◌, ◌==◌, ⊤, List, [], ◌∷◌, ◌++◌, if◌then◌else◌, length, take}
use Rattle.wp_model.specs.Opening.{Opening}
use Rattle.wp_model.specs.State.{State, opening_state}
use Rattle.wp_model.specs.Step.{step}
use Rattle.wp_model.specs.declared.command.Command.{Command}
use Rattle.wp_model.specs.declared.entry.Entry.{Entry}

-- what a machine has answered, from what it began with
pub record History : Type 0 where
  pub opening : Opening
  pub entries : List Entry

-- the state after entries, from another
abbrev pub state_from : Opening → State → List Entry → State
state_from opening state [] = state
state_from opening state (entry ∷ entries) = state_from opening (step opening state entry.command).state entries

-- the state after a history
abbrev pub state_after : History → State
state_after history = state_from history.opening (opening_state history.opening) history.entries

-- the state after its first entries
abbrev pub state_at : History → ℕ → State
state_at history entries = state_after (record history { entries = take entries history.entries })

-- each entry has the next number and the reply that its command gets in the state before it
abbrev pub IsLegalFrom : Opening → ℕ → State → List Entry → Type 0
IsLegalFrom opening number state [] = ⊤
IsLegalFrom opening number state (entry ∷ entries) =
    (entry.number ≡ number) × (entry.reply ≡ (step opening state entry.command).reply)
    × IsLegalFrom opening (number + 1) (step opening state entry.command).state entries

-- a legal history of its opening
abbrev pub IsLegal : History → Type 0
IsLegal history = IsLegalFrom history.opening 0 (opening_state history.opening) history.entries

-- the entry that answers a desk's command after a history
abbrev pub next_entry : History → ℕ → Command → Entry
next_entry history desk command = record {
  number = length history.entries;
  desk = desk;
  command = command;
  reply = (step history.opening (state_after history) command).reply;
}

-- a history with one more answer
abbrev pub answered : History → ℕ → Command → History
answered history desk command = record history { entries = history.entries ++ next_entry history desk command ∷ [] }

-- nothing was answered yet
abbrev pub opened : Opening → History
opened opening = record { opening = opening; entries = [] }

-- what a desk asks for, command by command
pub record Script : Type 0 where
  pub desk : ℕ
  pub commands : List Command

-- what scripts have a desk ask for, nothing where none is its script
abbrev pub script_of : List Script → ℕ → List Command
script_of [] desk = []
script_of (script ∷ scripts) desk = if script.desk == desk then script.commands else script_of scripts desk

-- the part of a desk: the commands of its entries, in order
abbrev pub part_of : ℕ → List Entry → List Command
part_of desk [] = []
part_of desk (entry ∷ entries) = if entry.desk == desk then entry.command ∷ part_of desk entries
    else part_of desk entries
