-- The entry that a line may be of: where it is the line of one, of this.
use Rattle.std.specs.Prelude.{◌≡◌, ℕ, ◌-◌, Bool, true, false, List, [], ◌∷◌, length, take, Option, Some, None}
use Rattle.std.specs.Prelude.{option_map, Result, Ok, Err}
use Rattle.std.specs.Option.{option_and_then}
use Rattle.wp_model.specs.declared.entry.Entry.{Entry}
use Rattle.wp_journal.specs.Commands.{command_in}
use Rattle.wp_journal.specs.Numbers.{small_of, whole_of}
use Rattle.wp_journal.specs.Replies.{reply_in}
use Rattle.wp_journal.specs.Splits.{Word, after_arrow, before_arrow, words_of}
use Rattle.wp_journal.specs.declared.fault.EntryFault.{EntryFault}
use Rattle.wp_journal.specs.declared.fault.EntryFault.TheVariants as fault

-- the fault is want of memory
abbrev pub wants_memory : EntryFault → Bool
wants_memory fault.NotEntry = false
wants_memory fault.Memory = true

-- a part of a reader gives what words write, as contracts see it, or says that they write nothing; but it may want
-- memory
abbrev pub GivesBy : {A B : Type 0} → (A → B) → Result A EntryFault → Option B → Type 0
GivesBy view (Ok x) said = said ≡ Some (view x)
GivesBy view (Err why) said = wants_memory why ≡ false → said ≡ None

-- the same, where the value is what contracts see
abbrev pub Gives : {A : Type 0} → Result A EntryFault → Option A → Type 0
Gives = GivesBy (λ x. x)

-- an entry of these parts
abbrev pub entry_from : ℕ → ℕ → List Word → Option Entry
entry_from number desk sentence =
    option_and_then (λ c. option_map (λ r. record { number = number; desk = desk; command = c; reply = r })
    (reply_in (after_arrow sentence)))
    (command_in (before_arrow sentence))

-- the entry that words write: a number, a desk, a command, an arrow and a reply
abbrev pub entry_in : List Word → Option Entry
entry_in [] = None
entry_in (number ∷ []) = None
entry_in (number ∷ desk ∷ sentence) = option_and_then
    (λ n. option_and_then (λ d. entry_from n d sentence) (small_of desk)) (whole_of number)

-- the entry that the words of a line without its last byte write
abbrev pub candidate_of : List ℕ → Option Entry
candidate_of line = entry_in (words_of (take (length line - 1) line))
