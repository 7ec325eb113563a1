-- How a journal is audited, line by line.
use Rattle.std.specs.Prelude.{◌≡◌, ℕ, ◌+◌, ⊤, Bool, List, length, take, drop, codes, Result, Ok, Err}
use Rattle.std.specs.List.{position_or_len}
use Rattle.std.specs.Str.{bytes_eq}
use Rattle.wp_model.specs.History.{History, answered, next_entry}
use Rattle.wp_model.specs.Journal.{line}
use Rattle.wp_model.specs.Opening.{Opening}
use Rattle.wp_model.specs.declared.command.Command.{Command}
use Rattle.wp_journal.specs.Grammar.{IsLineOf}
use Rattle.wp_journal.specs.Journals.{IsJournalOfHistory, IsMisanswered, IsNotNext, Shows, is_feed, line_number_after}
use Rattle.wp_journal.specs.declared.verdict.Audit.{Audit}
use Rattle.wp_journal.specs.declared.verdict.AuditFault.{AuditFault}
use Rattle.wp_journal.specs.declared.verdict.AuditFault.TheVariants as fault

-- the first line of a text, and the text after it
abbrev pub first_line : List ℕ → List ℕ
first_line text = take (position_or_len is_feed text + 1) text

abbrev pub after_line : List ℕ → List ℕ
after_line text = drop (position_or_len is_feed text + 1) text

-- the line before the entries
abbrev pub is_head : List ℕ → Bool
is_head text = bytes_eq text (line (codes "journal"))

-- what a line leads to after a history: it is that of the next entry, which the history then has too, or it is the
-- first that isn't right; but there may be no memory
abbrev pub Judges : {U : Type 0} → History → List ℕ → History → Result U AuditFault → Type 0
Judges before next after (Ok done) = (desk : ℕ) × (command : Command) × IsLineOf next (next_entry before desk command)
    × (after ≡ answered before desk command)
Judges before next after (Err (fault.BadLine number)) = (number ≡ line_number_after before) × IsNotNext before next
Judges before next after (Err (fault.WrongReply number printed right)) = IsMisanswered before next number printed right
Judges before next after (Err fault.Memory) = ⊤

-- an audit tells what the journal shows; but there may be no memory
abbrev pub Tells : Opening → List ℕ → Result Audit AuditFault → Type 0
Tells opening text (Ok audit) = Shows opening text (Ok audit)
Tells opening text (Err (fault.BadLine number)) = Shows opening text (Err (fault.BadLine number))
Tells opening text (Err (fault.WrongReply number printed right))
    = Shows opening text (Err (fault.WrongReply number printed right))
Tells opening text (Err fault.Memory) = ⊤

-- what an audit answers where a replay answers this: for a history, how many entries it has
abbrev pub audit_of : Result History AuditFault → Result Audit AuditFault
audit_of (Ok history) = Ok (record { entries = length history.entries })
audit_of (Err why) = Err why

-- a replay gives the history whose journal the text is, or tells what the journal shows; but there may be no memory
abbrev pub Restores : Opening → List ℕ → Result History AuditFault → Type 0
Restores opening text (Ok history) = IsJournalOfHistory opening text history
Restores opening text (Err why) = Tells opening text (Err why)
