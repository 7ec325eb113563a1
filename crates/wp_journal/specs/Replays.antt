-- The replay of lines: each is that of the next entry of a history, which the machine then has answered too, or the
-- first that isn't.
use Rattle.std.specs.Prelude.{◌≡◌, ℕ, ◌≤◌, ⊤, IsTrue, List, ◌++◌, length, map, Result, Ok, Err}
use Rattle.std.specs.List.{All}
use Rattle.wp_model.specs.History.{History, IsLegal, answered, next_entry}
use Rattle.wp_model.specs.Journal.{entry_line}
use Rattle.wp_model.specs.Limits.{most_entries}
use Rattle.wp_model.specs.Opening.{Opening}
use Rattle.wp_model.specs.declared.command.Command.{Command}
use Rattle.wp_journal.specs.Grammar.{IsLineOf, is_line_entry}
use Rattle.wp_journal.specs.Journals.{IsMisanswered, IsNotNext}
use Rattle.wp_journal.specs.declared.verdict.ReplayFault.{ReplayFault}
use Rattle.wp_journal.specs.declared.verdict.ReplayFault.TheVariants as fault

-- what the replay of a line leads to after a history: it is that of the next entry, which the history then has too; or
-- of no entry of the next number, and the history is as it was; or of one with another reply than the machine's; but
-- there may be no memory
abbrev pub Replays : {U : Type 0} → History → List ℕ → History → Result U ReplayFault → Type 0
Replays before next after (Ok done) = (desk : ℕ) × (command : Command) × IsLineOf next (next_entry before desk command)
    × (after ≡ answered before desk command)
Replays before next after (Err fault.NotNext) = (after ≡ before) × IsNotNext before next
Replays before next after (Err (fault.WrongReply number printed right)) = IsMisanswered before next number printed right
Replays before next after (Err fault.Memory) = ⊤

-- the machine may go on after a line: it is of the same opening, and has as many entries as a journal may have, or
-- fewer
pub record MayGoOn (before after : History) : Type 0 where
  pub opening : after.opening ≡ before.opening
  pub few : length after.entries ≤ most_entries

-- lines begin with those of the entries of a legal history of an opening, and these are left
pub record LinesBegin (opening : Opening) (lines : List (List ℕ)) (history : History)
    (left : List (List ℕ)) : Type 0 where
  pub starts : history.opening ≡ opening
  pub legal : IsLegal history
  pub within : All (λ entry. IsTrue (is_line_entry entry)) history.entries
  pub lines_are : lines ≡ map entry_line history.entries ++ left
