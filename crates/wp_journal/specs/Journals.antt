-- What a journal shows: that it is right, or where it first departs from what the machine answers.
use Rattle.std.specs.Prelude.{◌≡◌, ◌≢◌, ℕ, ◌+◌, ◌==◌, ◌||◌, ⊤, ◌⊎◌, Bool, true, false, IsTrue, List, [], ◌∷◌, ◌++◌}
use Rattle.std.specs.Prelude.{if◌then◌else◌, length, map, codes, Result}
use Rattle.std.specs.Prelude.{Ok, Err}
use Rattle.std.specs.List.{All, onto_first}
use Rattle.std.specs.Str.{bytes_eq}
use Rattle.wp_model.specs.History.{History, IsLegal, next_entry}
use Rattle.wp_model.specs.Journal.{entry_line, line}
use Rattle.wp_model.specs.Opening.{Opening}
use Rattle.wp_model.specs.declared.entry.Entry.{Entry}
use Rattle.wp_model.specs.declared.reply.Reply.{Reply}
use Rattle.wp_journal.specs.Grammar.{IsLineOf, is_line_entry}
use Rattle.wp_journal.specs.declared.verdict.Audit.{Audit}
use Rattle.wp_journal.specs.declared.verdict.AuditFault.{AuditFault}
use Rattle.wp_journal.specs.declared.verdict.AuditFault.TheVariants as fault

-- the byte that ends a line
abbrev pub is_feed : ℕ → Bool
is_feed b = b == 10

-- the lines of a text, each with its line feed, which the last may lack
abbrev pub lines_of : List ℕ → List (List ℕ)
lines_of [] = []
lines_of (b ∷ text) = if is_feed b then (b ∷ []) ∷ lines_of text else onto_first b (lines_of text)

-- the line after the entries, whose line feed may be missing
abbrev pub is_end : List ℕ → Bool
is_end text = bytes_eq text (line (codes "end journal")) || bytes_eq text (codes "end journal")

-- a text begins with the head and the lines of a legal history's entries, and these lines are left
pub record Begins (opening : Opening) (text : List ℕ) (history : History) (left : List (List ℕ)) : Type 0 where
  pub starts : history.opening ≡ opening
  pub legal : IsLegal history
  pub within : All (λ entry. IsTrue (is_line_entry entry)) history.entries
  pub lines : lines_of text ≡ line (codes "journal") ∷ (map entry_line history.entries ++ left)

-- a text begins with the whole journal of a legal history
pub record IsJournalOfHistory (opening : Opening) (text : List ℕ) (history : History) : Type 0 where
  pub last : List ℕ
  pub others : List (List ℕ)
  pub begins : Begins opening text history (last ∷ others)
  pub ends : is_end last ≡ true

-- a text begins with the whole journal of a legal history of so many entries
pub record IsJournalOf (opening : Opening) (text : List ℕ) (count : ℕ) : Type 0 where
  pub history : History
  pub last : List ℕ
  pub others : List (List ℕ)
  pub begins : Begins opening text history (last ∷ others)
  pub ends : is_end last ≡ true
  pub counted : count ≡ length history.entries

-- a line is that of the entry of the next number after a history, with another reply than the machine's
pub record IsMisanswered (history : History) (next : List ℕ) (number : ℕ) (printed right : Reply) : Type 0 where
  pub entry : Entry
  pub is : IsLineOf next entry
  pub numbered : entry.number ≡ length history.entries
  pub named : number ≡ entry.number
  pub answered : printed ≡ entry.reply
  pub wanted : right ≡ (next_entry history entry.desk entry.command).reply
  pub differ : printed ≢ right

-- after the entries of a legal history comes such a line
pub record IsWrongAt (opening : Opening) (text : List ℕ) (number : ℕ) (printed right : Reply) : Type 0 where
  pub history : History
  pub next : List ℕ
  pub others : List (List ℕ)
  pub begins : Begins opening text history (next ∷ others)
  pub misanswered : IsMisanswered history next number printed right

-- a line is not that of an entry of the next number after a history
abbrev pub IsNotNext : History → List ℕ → Type 0
IsNotNext history next = (entry : Entry) → IsLineOf next entry → entry.number ≢ length history.entries

-- no line is left, or the next is neither the end nor the entry of the next number
abbrev pub IsBad : History → List (List ℕ) → Type 0
IsBad history [] = ⊤
IsBad history (next ∷ others) = (is_end next ≡ false) × IsNotNext history next

-- the number of the line after the head and the entries of a history
abbrev pub line_number_after : History → ℕ
line_number_after history = length history.entries + 2

-- after the head and the entries of a legal history the line of this number is bad
pub record IsBadAfter (opening : Opening) (text : List ℕ) (number : ℕ) : Type 0 where
  pub history : History
  pub left : List (List ℕ)
  pub begins : Begins opening text history left
  pub bad : IsBad history left
  pub numbered : number ≡ line_number_after history

-- the first line isn't the head
abbrev pub HasNoHead : List ℕ → Type 0
HasNoHead text = (left : List (List ℕ)) → lines_of text ≢ line (codes "journal") ∷ left

-- the line of this number is bad
abbrev pub IsBadAt : Opening → List ℕ → ℕ → Type 0
IsBadAt opening text number = ((number ≡ 1) × HasNoHead text) ⊎ IsBadAfter opening text number

-- a journal shows that it is right, with so many entries, or where it isn't
abbrev pub Shows : Opening → List ℕ → Result Audit AuditFault → Type 0
Shows opening text (Ok audit) = IsJournalOf opening text audit.entries
Shows opening text (Err (fault.BadLine number)) = IsBadAt opening text number
Shows opening text (Err (fault.WrongReply number printed right)) = IsWrongAt opening text number printed right
Shows opening text (Err fault.Memory) = ⊥
