-- The texts of commands, replies and entries, and the journal.
use Rattle.std.specs.Prelude.{ℕ, List, [], ◌∷◌, ◌++◌, codes}
use Rattle.std.specs.List.{flat_map}
use Rattle.std.specs.Fmt.{decimal}
use Rattle.wp_model.specs.declared.command.Command.{Command}
use Rattle.wp_model.specs.declared.command.Command.TheVariants as command
use Rattle.wp_model.specs.declared.entry.Entry.{Entry}
use Rattle.wp_model.specs.declared.location.Location.{Location}
use Rattle.wp_model.specs.declared.location.Side.{Side}
use Rattle.wp_model.specs.declared.location.Side.TheVariants as side
use Rattle.wp_model.specs.declared.reply.Reply.{Reply}
use Rattle.wp_model.specs.declared.reply.Reply.TheVariants as reply
use Rattle.wp_model.specs.declared.reply.WaveState.{WaveState}
use Rattle.wp_model.specs.declared.reply.WaveState.TheVariants as wave

-- a word, and the space that sets it apart
abbrev pub after_space : List ℕ → List ℕ
after_space word = 32 ∷ word

-- a number after a space
abbrev pub number_after_space : ℕ → List ℕ
number_after_space n = 32 ∷ decimal n

-- the side's letter
abbrev pub side_text : Side → List ℕ
side_text side.L = codes "L"
side_text side.R = codes "R"

-- a location, with no leading zeros
abbrev pub location_text : Location → List ℕ
location_text location = decimal location.aisle ++ (45 ∷ decimal location.slot) ++ (45 ∷ side_text location.side)

-- what the journal calls a wave's state
abbrev pub wave_state_text : WaveState → List ℕ
wave_state_text wave.Submitted = codes "submitted"
wave_state_text wave.Allotted = codes "allotted"
wave_state_text wave.Released = codes "released"
wave_state_text wave.Cancelled = codes "cancelled"
wave_state_text wave.Done = codes "done"

-- the words of a command
abbrev pub command_text : Command → List ℕ
command_text (command.Submit w orders) = codes "submit" ++ after_space w ++ flat_map after_space orders
command_text (command.Allot w) = codes "allot" ++ after_space w
command_text (command.Release w) = codes "release" ++ after_space w
command_text (command.Cancel w) = codes "cancel" ++ after_space w
command_text (command.Pick w order location quantity) =
    codes "pick" ++ after_space w ++ after_space order ++ after_space (location_text location)
    ++ number_after_space quantity
command_text (command.Missing w order location quantity) =
    codes "missing" ++ after_space w ++ after_space order ++ after_space (location_text location)
    ++ number_after_space quantity
command_text (command.Receive location article quantity) =
    codes "receive" ++ after_space (location_text location) ++ after_space article ++ number_after_space quantity

-- the words of a reply
abbrev pub reply_text : Reply → List ℕ
reply_text reply.Submitted = codes "submitted"
reply_text reply.Allotted = codes "allotted"
reply_text reply.Released = codes "released"
reply_text reply.Cancelled = codes "cancelled"
reply_text reply.Picked = codes "picked"
reply_text reply.Received = codes "received"
reply_text (reply.Refilled units) = codes "refilled" ++ number_after_space units
reply_text (reply.Lost article units) = codes "lost" ++ after_space article ++ number_after_space units
reply_text reply.NoOrders = codes "refused no-orders"
reply_text (reply.WaveFull orders) = codes "refused wave-full" ++ number_after_space orders
reply_text reply.KnownWave = codes "refused known-wave"
reply_text (reply.UnknownOrder order) = codes "refused unknown-order" ++ after_space order
reply_text (reply.OrderTwice order) = codes "refused order-twice" ++ after_space order
reply_text (reply.OrderTaken order w) = codes "refused order-taken" ++ after_space order ++ after_space w
reply_text (reply.OverCart order units) = codes "refused over-cart" ++ after_space order ++ number_after_space units
reply_text reply.UnknownWave = codes "refused unknown-wave"
reply_text (reply.WrongState state) = codes "refused wrong-state" ++ after_space (wave_state_text state)
reply_text (reply.Short article wanted free)
    = codes "refused short" ++ after_space article ++ number_after_space wanted ++ number_after_space free
reply_text reply.Picking = codes "refused picking"
reply_text (reply.NotHeld location) = codes "refused not-held" ++ after_space (location_text location)
reply_text (reply.TooMuch held) = codes "refused too-much" ++ number_after_space held
reply_text reply.NoRow = codes "refused no-row"
reply_text (reply.OtherArticle article) = codes "refused other-article" ++ after_space article
reply_text (reply.TooMany on_hand) = codes "refused too-many" ++ number_after_space on_hand

-- an entry: its number, the desk, the command, an arrow and the reply
abbrev pub entry_text : Entry → List ℕ
entry_text entry = decimal entry.number ++ number_after_space entry.desk ++ after_space (command_text entry.command)
    ++ codes " -> " ++ reply_text entry.reply

-- a text as a line
abbrev pub line : List ℕ → List ℕ
line text = text ++ 10 ∷ []

-- the line of an entry
abbrev pub entry_line : Entry → List ℕ
entry_line entry = line (entry_text entry)

-- the journal of these entries
abbrev pub journal : List Entry → List ℕ
journal entries = line (codes "journal") ++ flat_map entry_line entries ++ line (codes "end journal")
