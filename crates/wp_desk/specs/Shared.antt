-- The machine as the value that all desks call in turn.
use Rattle.std.specs.Prelude.{ℕ, List, length}
use Rattle.wp_machine.specs.Machine.{Asked}
use Rattle.wp_machine.specs.Outcome.{outcome_of}
use Rattle.wp_machine.specs.declared.outcome.Answer.{Answer}
use Rattle.wp_model.specs.History.{History, next_entry, state_after}
use Rattle.wp_model.specs.Opening.{Opening}
use Rattle.wp_model.specs.Step.{step}
use Rattle.wp_model.specs.declared.command.Command.{Command}
use Rattle.wp_model.specs.declared.entry.Entry.{Entry}

-- the history of these entries
abbrev pub history_with : Opening → List Entry → History
history_with opening entries = record { opening = opening; entries = entries }

-- the entry of a desk's call after these entries
abbrev pub entry_of : Opening → List Entry → ℕ → Asked → Entry
entry_of opening entries desk asked = next_entry (history_with opening entries) desk asked.command

-- what a command is answered after a history
abbrev pub answer_after : History → Command → Answer
answer_after history command = record {
  number = length history.entries;
  reply = (step history.opening (state_after history) command).reply;
  outcome = outcome_of (length history.entries) (state_after history) command
      (step history.opening (state_after history) command);
}

-- what a call is answered after these entries
abbrev pub answer_of : Opening → List Entry → ℕ → Asked → Answer
answer_of opening entries desk asked = answer_after (history_with opening entries) asked.command
