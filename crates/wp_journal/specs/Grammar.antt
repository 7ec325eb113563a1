-- The lines of the journal.
use Rattle.std.specs.Prelude.{◌≡◌, ℕ, ◌^◌, ◌&&◌, nat_le, nat_lt, Bool, true, IsTrue, List}
use Rattle.wp_model.specs.Journal.{entry_line}
use Rattle.wp_model.specs.Limits.{greatest_desk, most_entries}
use Rattle.wp_model.specs.Name.{is_name}
use Rattle.wp_model.specs.Plain.{has_names, is_plain, is_plain_location, is_plain_quantity}
use Rattle.wp_model.specs.declared.entry.Entry.{Entry}
use Rattle.wp_model.specs.declared.reply.Reply.{Reply}
use Rattle.wp_model.specs.declared.reply.Reply.TheVariants as reply

-- a number of 32 bits, and one of 64
abbrev pub is_u32 : ℕ → Bool
is_u32 n = nat_lt n (2 ^ 32)

abbrev pub is_u64 : ℕ → Bool
is_u64 n = nat_lt n (2 ^ 64)

-- a reply names names, places and lost units are within the bounds of a command's, and the other numbers are any
abbrev pub is_line_reply : Reply → Bool
is_line_reply (reply.Refilled units) = is_plain_quantity units
is_line_reply (reply.Lost article units) = is_name article && is_plain_quantity units
is_line_reply (reply.WaveFull orders) = is_u32 orders
is_line_reply (reply.UnknownOrder order) = is_name order
is_line_reply (reply.OrderTwice order) = is_name order
is_line_reply (reply.OrderTaken order wave) = is_name order && is_name wave
is_line_reply (reply.OverCart order units) = is_name order && is_u32 units
is_line_reply (reply.Short article wanted free) = is_name article && (is_u64 wanted && is_u64 free)
is_line_reply (reply.NotHeld location) = is_plain_location location
is_line_reply (reply.TooMuch held) = is_u32 held
is_line_reply (reply.OtherArticle article) = is_name article
is_line_reply (reply.TooMany on_hand) = is_u32 on_hand
is_line_reply other = true

-- an entry of the journal: its number and its desk are within the limits, its command is plain, and its reply is one
abbrev pub is_line_entry : Entry → Bool
is_line_entry entry =
    (nat_lt entry.number most_entries && (nat_le 1 entry.desk && nat_le entry.desk greatest_desk)) &&
    ((is_plain entry.command && has_names entry.command) && is_line_reply entry.reply)

-- the line of an entry of the journal
pub record IsLineOf (line : List ℕ) (entry : Entry) : Type 0 where
  pub within : IsTrue (is_line_entry entry)
  pub written : line ≡ entry_line entry

-- a line is that of no entry of the journal
abbrev pub IsNoLine : List ℕ → Type 0
IsNoLine line = (entry : Entry) → IsLineOf line entry → ⊥

-- a line is that of this entry alone
abbrev pub IsOnlyLineOf : List ℕ → Entry → Type 0
IsOnlyLineOf line entry = (other : Entry) → IsLineOf line other → other ≡ entry
