-- What the faults of lines and journals are told as.
use Rattle.std.specs.Prelude.{ℕ, ◌++◌, List, codes}
use Rattle.std.specs.Fmt.{decimal}
use Rattle.wp_model.specs.Journal.{reply_text}
use Rattle.wp_model.specs.declared.reply.Reply.{Reply}
use Rattle.wp_journal.specs.declared.fault.EntryFault.{EntryFault}
use Rattle.wp_journal.specs.declared.fault.EntryFault.TheVariants as fault
use Rattle.wp_journal.specs.declared.verdict.AuditFault.{AuditFault}
use Rattle.wp_journal.specs.declared.verdict.AuditFault.TheVariants as audit
use Rattle.wp_journal.specs.declared.verdict.ReplayFault.{ReplayFault}
use Rattle.wp_journal.specs.declared.verdict.ReplayFault.TheVariants as replay

-- why a line isn't read as an entry
abbrev pub entry_fault_text : EntryFault → List ℕ
entry_fault_text fault.NotEntry = codes "not-entry"
entry_fault_text fault.Memory = codes "memory"

-- an entry that has another reply than the machine's
abbrev pub wrong_reply_text : ℕ → Reply → Reply → List ℕ
wrong_reply_text number printed right = codes "entry " ++ decimal number ++ codes " printed " ++ reply_text printed
    ++ codes " right " ++ reply_text right

-- why a line isn't taken in as the next entry
abbrev pub replay_fault_text : ReplayFault → List ℕ
replay_fault_text replay.NotNext = codes "not-next"
replay_fault_text (replay.WrongReply number printed right) = wrong_reply_text number printed right
replay_fault_text replay.Memory = codes "memory"

-- where a journal isn't right
abbrev pub audit_fault_text : AuditFault → List ℕ
audit_fault_text (audit.BadLine line) = codes "line " ++ decimal line
audit_fault_text (audit.WrongReply number printed right) = wrong_reply_text number printed right
audit_fault_text audit.Memory = codes "memory"
