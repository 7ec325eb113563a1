-- What an audit tells is what the journal shows.
use Rattle.wp_journal.proofs.Lines.{first_of_lines}
use Rattle.std.proofs.Common.{◌≡◌, ◌∙◌, refl, sym, ap, ap₂, subst, ℕ, ◌<◌, true, false, List, [], ◌∷◌, ◌++◌, length, map, append_assoc, inl, inr}
use Rattle.std.specs.Prelude.{◌≢◌, codes, IsTrue, Err}
use Rattle.std.proofs.lemmas.List.{map-append}
use Rattle.std.proofs.lemmas.List.Elements.{All-nil, All-push}
use Rattle.std.proofs.lemmas.Slice.Eq.{bytes_eq-Decides}
use Rattle.wp_model.proofs.Histories.{answered_is_legal}
use Rattle.wp_model.specs.History.{History, answered, next_entry, opened}
use Rattle.wp_model.specs.Journal.{entry_line, line}
use Rattle.wp_model.specs.Opening.{Opening}
use Rattle.wp_model.specs.declared.command.Command.{Command}
use Rattle.wp_model.specs.declared.entry.Entry.{Entry}
use Rattle.wp_model.specs.declared.reply.Reply.{Reply}
use Rattle.wp_journal.specs.Auditing.{Judges, Tells, after_line, first_line, is_head}
use Rattle.wp_journal.specs.Grammar.{IsLineOf, IsOnlyLineOf, is_line_entry}
use Rattle.wp_journal.specs.Journals.{Begins, IsJournalOfHistory, Shows, is_end, line_number_after, lines_of}
use Rattle.wp_journal.specs.declared.verdict.AuditFault.{AuditFault}
use Rattle.wp_journal.specs.declared.verdict.AuditFault.TheVariants as fault

with_parts : (e : Entry) (n : ℕ) (r : Reply) → e.number ≡ n → e.reply ≡ r → e ≡ record { number = n; desk = e.desk; command = e.command; reply = r }
with_parts e n r p q = ap₂ {C = Entry} (λ n r. record { number = n; desk = e.desk; command = e.command; reply = r }) p q

-- the entry of the next number with the machine's reply is the next entry
pub line_of_next : (history : History) (text : List ℕ) (e : Entry) → IsLineOf text e → e.number ≡ length history.entries
    → e.reply ≡ (next_entry history e.desk e.command).reply → IsLineOf text (next_entry history e.desk e.command)
line_of_next history text e is number reply = subst (IsLineOf text)
    (with_parts e (length history.entries) (next_entry history e.desk e.command).reply number reply) is

-- an entry that is the only one of its line, and has another number, isn't the next
pub another_number : (history : History) (text : List ℕ) (e : Entry) → IsOnlyLineOf text e → e.number ≢ length history.entries → (other : Entry)
    → IsLineOf text other → other.number ≢ length history.entries
another_number history text e only another other is number = another (sym (ap (λ (x : Entry). x.number) (only other is)) ∙ number)

pub longer : (history : History) (right : Entry) (others : List (List ℕ))
    → map entry_line history.entries ++ entry_line right ∷ others ≡ map entry_line (history.entries ++ right ∷ []) ++ others
longer history right others =
    sym (append_assoc (map entry_line history.entries) (entry_line right ∷ []) others)
    ∙ ap (λ lines. lines ++ others) (sym (map-append entry_line history.entries (right ∷ [])))

-- what begins with the line of the next entry begins with the longer history
begins_longer : (opening : Opening) (text : List ℕ) (history : History) (next : List ℕ) (others : List (List ℕ)) (desk : ℕ) (command : Command)
    → Begins opening text history (next ∷ others)
    → IsLineOf next (next_entry history desk command) → Begins opening text (answered history desk command) others
begins_longer opening text history next others desk command begins is = record {
  starts = begins.starts;
  legal = answered_is_legal history desk command begins.legal;
  within = All-push (λ entry. IsTrue (is_line_entry entry)) history.entries (next_entry history desk command) begins.within is.within;
  lines = begins.lines ∙ ap (λ lines. line (codes "journal") ∷ lines)
      (ap (λ l. map entry_line history.entries ++ l ∷ others) is.written ∙ longer history (next_entry history desk command) others);
}

-- a line that is taken in leads on
pub leads_on : (opening : Opening) (text : List ℕ) (before after : History) (next : List ℕ) (others : List (List ℕ))
    → Begins opening text before (next ∷ others)
    → (desk : ℕ) (command : Command) → IsLineOf next (next_entry before desk command) → after ≡ answered before desk command → Begins opening text after others
leads_on opening text before after next others begins desk command is grown =
    subst (λ (history : History). Begins opening text history others) (sym grown) (begins_longer opening text before next others desk command begins is)

-- and another is what the audit tells
pub stops : (U : Type 0) (opening : Opening) (text : List ℕ) (before after : History) (next : List ℕ) (others : List (List ℕ)) (why : AuditFault)
    → Begins opening text before (next ∷ others) → is_end next ≡ false
    → Judges {U = U} before next after (Err why) → Tells opening text (Err why)
stops U opening text before after next others (fault.BadLine number) begins goes judges =
    inr (record { history = before; left = next ∷ others; begins = begins; bad = (goes, judges.1); numbered = judges.0 })
stops U opening text before after next others (fault.WrongReply number printed right) begins goes judges =
    record { history = before; next = next; others = others; begins = begins; misanswered = judges }
stops U opening text before after next others fault.Memory begins goes judges = tt

-- after the head nothing was answered yet
pub begins_opened : (opening : Opening) (text : List ℕ) (left : List (List ℕ)) → lines_of text ≡ line (codes "journal") ∷ left
    → Begins opening text (opened opening) left
begins_opened opening text left lines = record { starts = refl; legal = tt; within = All-nil (λ entry. IsTrue (is_line_entry entry)); lines = lines }

-- the lines end before the journal does
pub ends_early : (opening : Opening) (text : List ℕ) (history : History) → Begins opening text history []
    → Shows opening text (Err (fault.BadLine (line_number_after history)))
ends_early opening text history begins = inr (record { history = history; left = []; begins = begins; bad = tt; numbered = refl })

-- the journal ends
pub ends_well : (opening : Opening) (text : List ℕ) (history : History) (next : List ℕ) (others : List (List ℕ)) → Begins opening text history (next ∷ others)
    → is_end next ≡ true
    → IsJournalOfHistory opening text history
ends_well opening text history next others begins ends = record { last = next; others = others; begins = begins; ends = ends }

clash : true ≡ false → ⊥
clash e = cc e

no_lines : (l : List ℕ) (ls : List (List ℕ)) → [] ≡ l ∷ ls → ⊥
no_lines l ls e = cc e

same_first : (a b : List ℕ) (xs ys : List (List ℕ)) → ◌≡◌ {A = List (List ℕ)} (a ∷ xs) (b ∷ ys) → a ≡ b
same_first a b xs ys e = cc e

-- a text without a line shows a bad first line
pub empty_shows : (opening : Opening) → Shows opening [] (Err (fault.BadLine 1))
empty_shows opening = inl (refl, λ left same. no_lines (line (codes "journal")) left same)

-- so does one whose first line isn't the head
pub no_head_shows : (opening : Opening) (text first : List ℕ) (others : List (List ℕ)) → lines_of text ≡ first ∷ others → is_head first ≡ false
    → Shows opening text (Err (fault.BadLine 1))
no_head_shows opening text first others lines is =
    inl (
      refl,
      λ left same. clash (sym ((bytes_eq-Decides first (line (codes "journal"))).1
          (same_first first (line (codes "journal")) others left (sym lines ∙ same))) ∙ is),
    )

-- the head
pub head_is : (first : List ℕ) → is_head first ≡ true → first ≡ line (codes "journal")
head_is first is = (bytes_eq-Decides first (line (codes "journal"))).0 is

-- the first line that is left, and those after it
pub begins_at : (opening : Opening) (text : List ℕ) (history : History) (rest : List ℕ) → 0 < length rest → Begins opening text history (lines_of rest)
    → Begins opening text history (first_line rest ∷ lines_of (after_line rest))
begins_at opening text history rest some begins = subst (Begins opening text history) (first_of_lines rest some) begins
