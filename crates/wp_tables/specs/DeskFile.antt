-- What a desk file says.
use Rattle.std.specs.Prelude.{ℕ, ◌==◌, ◌||◌, ◌&&◌, not, nat_le, nat_lt, max, Bool, true, false, List, [], ◌∷◌, ◌++◌}
use Rattle.std.specs.Prelude.{length, map, codes, Option, Some, None}
use Rattle.std.specs.Prelude.{Result, Ok, Err, if◌then◌else◌}
use Rattle.std.specs.List.{count_by, filter, range_with_len}
use Rattle.std.specs.Option.{ok_or}
use Rattle.std.specs.Str.{bytes_eq}
use Rattle.wp_model.specs.TableLines.{Record}
use Rattle.wp_model.specs.History.{Script}
use Rattle.wp_model.specs.Limits.{greatest_desk, most_commands, most_named, most_submissions}
use Rattle.wp_model.specs.declared.command.Command.{Command}
use Rattle.wp_model.specs.declared.command.Command.TheVariants as command
use Rattle.wp_model.specs.declared.location.Location.{Location}
use Rattle.wp_model.specs.Number.{number_of}
use Rattle.wp_tables.specs.Fields.{four_of, location_read, name_read, one_of, quantity_read, texts_of, three_of}
use Rattle.wp_tables.specs.Reading.{table_of}
use Rattle.wp_model.specs.Outcomes.{and_then}
use Rattle.wp_tables.specs.Records.{kept_in}
use Rattle.wp_tables.specs.declared.fault.RowFault.{RowFault}
use Rattle.wp_tables.specs.declared.fault.Why.{Why}
use Rattle.wp_tables.specs.declared.fault.Why.TheVariants as why
use Rattle.wp_tables.specs.declared.scripts.DeskCommand.{DeskCommand}
use Rattle.wp_tables.specs.declared.scripts.NamedHold.{NamedHold}
use Rattle.wp_tables.specs.declared.word.Word.{Word}
use Rattle.wp_tables.specs.declared.word.Word.TheVariants as word

-- the command that a word names
abbrev pub word_of : List ℕ → Option Word
word_of text =
    if bytes_eq text (codes "submit") then Some word.Submit
    else if bytes_eq text (codes "allot") then Some word.Allot
    else if bytes_eq text (codes "release") then Some word.Release
    else if bytes_eq text (codes "cancel") then Some word.Cancel
    else if bytes_eq text (codes "pick") then Some word.Pick
    else if bytes_eq text (codes "missing") then Some word.Missing
    else if bytes_eq text (codes "receive") then Some word.Receive
    else None

-- a field that is a command's word
abbrev pub word_read : List ℕ → Result Word Why
word_read field = ok_or (word_of field) why.UnknownCommand

-- the fields, where each is a name
abbrev pub names_read : List (List ℕ) → Result (List (List ℕ)) Why
names_read [] = Ok []
names_read (field ∷ fields) = and_then (name_read field)
    (λ name. and_then (names_read fields) (λ names. Ok (name ∷ names)))

-- Submit: a wave, and then its orders, not too many
abbrev pub submission_of : Record → Result Command Why
submission_of [] = Err why.Columns
submission_of (wave ∷ orders) =
    if nat_le (length orders) most_named then and_then (name_read wave)
    (λ w. and_then (names_read orders) (λ names. Ok (command.Submit w names)))
    else Err why.Columns

-- the wave that the one argument names
abbrev pub wave_of : Record → Result (List ℕ) Why
wave_of arguments = and_then (one_of arguments) name_read

-- a command on a wave
abbrev pub of_wave : (List ℕ → Command) → Record → Result Command Why
of_wave make arguments = and_then (wave_of arguments) (λ wave. Ok (make wave))

-- the units that four arguments name: a wave, an order, a location and a quantity
abbrev pub hold_of : Record → Result NamedHold Why
hold_of arguments = and_then (four_of arguments)
    (λ four. and_then (name_read four.0)
    (λ wave. and_then (name_read four.1)
    (λ order. and_then (location_read four.2)
    (λ location. and_then (quantity_read four.3)
    (λ quantity. Ok (record { wave = wave; order = order; location = location; quantity = quantity }))))))

-- a command on units that are held
abbrev pub of_hold : (List ℕ → List ℕ → Location → ℕ → Command) → Record → Result Command Why
of_hold make arguments = and_then (hold_of arguments)
    (λ held. Ok (make held.wave held.order held.location held.quantity))

-- Receive: a location, an article and a quantity
abbrev pub receipt_of : Record → Result Command Why
receipt_of arguments = and_then (three_of arguments)
    (λ three. and_then (location_read three.0)
    (λ location. and_then (name_read three.1)
    (λ article. and_then (quantity_read three.2)
    (λ quantity. Ok (command.Receive location article quantity)))))

-- the command that a word and its arguments write
abbrev pub command_of : Word → Record → Result Command Why
command_of word.Submit = submission_of
command_of word.Allot = of_wave command.Allot
command_of word.Release = of_wave command.Release
command_of word.Cancel = of_wave command.Cancel
command_of word.Pick = of_hold command.Pick
command_of word.Missing = of_hold command.Missing
command_of word.Receive = receipt_of

-- a number is that of a desk
abbrev pub is_desk : ℕ → Bool
is_desk number = nat_le 1 number && nat_le number greatest_desk

-- a field that is the number of a desk
abbrev pub desk_read : List ℕ → Result ℕ Why
desk_read field = and_then (ok_or (number_of 18 field) why.BadNumber) (λ n. if is_desk n then Ok n
    else Err why.DeskNumber)

-- the command submits a wave
abbrev pub is_submission : Command → Bool
is_submission (command.Submit wave orders) = true
is_submission other = false

-- how many of the desks' commands submit a wave
abbrev pub submissions : List DeskCommand → ℕ
submissions commands = count_by (λ asked. is_submission asked.command) commands

-- there is room for a further command: it doesn't submit one wave too many
abbrev pub has_room : List DeskCommand → Command → Bool
has_room commands c = not (is_submission c) || nat_lt (submissions commands) most_submissions

-- a further command of a desk, where there is room for it
abbrev pub with_room : List DeskCommand → DeskCommand → Result DeskCommand Why
with_room commands asked = if has_room commands asked.command then Ok asked else Err why.TooManyWaves

-- a command that is read, as that of a desk
abbrev pub asked_by : ℕ → Result Command Why → Result DeskCommand Why
asked_by desk given = and_then given (λ c. Ok (record { desk = desk; command = c }))

-- the command of a desk that a number, a word and arguments write
abbrev pub command_in : List ℕ → List ℕ → Record → Result DeskCommand Why
command_in desk text arguments = and_then (desk_read desk)
    (λ d. and_then (word_read text) (λ w. asked_by d (command_of w arguments)))

-- the command of a desk that fields write
abbrev pub command_in_fields : Record → Result DeskCommand Why
command_in_fields (desk ∷ text ∷ arguments)
    = and_then (texts_of (desk ∷ text ∷ arguments)) (λ texts. command_in desk text arguments)
command_in_fields other = Err why.Columns

-- the command of a desk that a record writes, after these commands; or the first test that the record fails
abbrev pub command_after : List DeskCommand → Record → Result DeskCommand Why
command_after commands fields =
    if nat_lt (length commands) most_commands then and_then (command_in_fields fields) (with_room commands)
    else Err why.TooManyRows

-- the desks' commands with a record's
abbrev pub script_after : List DeskCommand → Record → Result (List DeskCommand) Why
script_after commands fields = and_then (command_after commands fields) (λ asked. Ok (commands ++ asked ∷ []))

-- the desk is the one that asks for the command
abbrev pub is_of : ℕ → DeskCommand → Bool
is_of desk asked = asked.desk == desk

-- the script of a desk: what that desk asks for, in order
abbrev pub script_from : List DeskCommand → ℕ → Script
script_from commands desk = record {
  desk = desk;
  commands = map (λ asked. asked.command)
      (filter (is_of desk) commands);
}

-- how many desks there are: the greatest number of a desk that asks for a command, and 1 where none does
abbrev pub desks_in : List DeskCommand → ℕ
desks_in [] = 1
desks_in (asked ∷ commands) = max asked.desk (desks_in commands)

-- the scripts of all desks, from desk 1 on; that of a desk that asks for nothing is empty
abbrev pub scripts_of : List DeskCommand → List Script
scripts_of commands = map (script_from commands) (range_with_len 1 (desks_in commands))

-- the heading of a desk file
abbrev pub desks_heading : Record
desks_heading = codes "desk" ∷ codes "command" ∷ codes "arguments" ∷ []

-- the scripts that a desk file says; or the first record that fails and its first failing test
abbrev pub scripts_said : List ℕ → Result (List Script) RowFault
scripts_said text = and_then (table_of desks_heading script_after [] (kept_in text))
    (λ commands. Ok (scripts_of commands))
