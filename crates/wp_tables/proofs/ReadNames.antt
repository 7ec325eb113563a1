-- What is read as a name is one: the articles of stock lines, the orders of order lines, and all that commands name.
use Rattle.std.proofs.Common.{◌≡◌, refl, ℕ, true, false, Bool, List, [], ◌∷◌, length, Result, Ok, Err, IfOk, if◌then◌else◌}
use Rattle.std.specs.List.{list_all}
use Rattle.std.specs.Option.{ok_or}
use Rattle.std.specs.Prelude.{◌&&◌, IsTrue, Some, None, nat_le}
use Rattle.std.proofs.lemmas.Bool.{and_from}
use Rattle.wp_model.specs.Limits.{most_named}
use Rattle.wp_model.specs.Name.{is_name}
use Rattle.wp_model.specs.Outcomes.{and_then}
use Rattle.wp_model.specs.Plain.{has_names}
use Rattle.wp_model.specs.TableLines.{Record}
use Rattle.wp_model.specs.declared.command.Command.{Command}
use Rattle.wp_model.specs.declared.command.Command.TheVariants as command
use Rattle.wp_model.specs.declared.location.Location.{Location}
use Rattle.wp_tables.specs.DeskFile.{command_in_fields, command_of, desk_read, hold_of, names_read, of_hold, of_wave, receipt_of, submission_of}
use Rattle.wp_tables.specs.DeskFile.{wave_of, word_read}
use Rattle.wp_tables.specs.Fields.{four_of, location_read, name_read, one_of, quantity_read, texts_of, three_of}
use Rattle.wp_tables.specs.declared.fault.Why.{Why}
use Rattle.wp_tables.specs.declared.fault.Why.TheVariants as why
use Rattle.wp_tables.specs.declared.scripts.DeskCommand.{DeskCommand}
use Rattle.wp_tables.specs.declared.scripts.NamedHold.{NamedHold}
use Rattle.wp_tables.specs.declared.word.Word.{Word}
use Rattle.wp_tables.specs.declared.word.Word.TheVariants as word

-- what follows holds of what comes next where it does after each value that is right
then_ok : {A B : Type 0} (said : Result A Why) (next : A → Result B Why) (P : A → Type 0) (Q : B → Type 0) → IfOk said P
    → ((x : A) → P x → IfOk (next x) Q) → IfOk (and_then said next) Q
then_ok (Ok x) next P Q right each = each x right
then_ok (Err why) next P Q right each = tt

-- the same, after any value
after : {A B : Type 0} (said : Result A Why) (next : A → Result B Why) (Q : B → Type 0) → ((x : A) → IfOk (next x) Q) → IfOk (and_then said next) Q
after (Ok x) next Q each = each x
after (Err why) next Q each = tt

either : {A : Type 0} (Q : A → Type 0) (test : Bool) (a : Result A Why) (fault : Why) → IfOk a Q → IfOk (if test then a else Err fault) Q
either Q true a fault right = right
either Q false a fault right = tt

-- a text is a name
abbrev IsNamed : List ℕ → Type 0
IsNamed text = IsTrue (is_name text)

name_if : (test : Bool) (field : List ℕ) → is_name field ≡ test → IfOk (ok_or (if test then Some field else None) why.BadName) IsNamed
name_if true field is = is
name_if false field is = tt

-- a field that is read as a name is one
name_named : (field : List ℕ) → IfOk (name_read field) IsNamed
name_named field = name_if (is_name field) field refl

names_named : (fields : List (List ℕ)) → IfOk (names_read fields) (λ names. IsTrue (list_all is_name names))
names_named [] = refl
names_named (field ∷ fields) =
    then_ok (name_read field) _ IsNamed (λ names. IsTrue (list_all is_name names)) (name_named field)
    (λ name is. then_ok (names_read fields) _ (λ names. IsTrue (list_all is_name names)) (λ names. IsTrue (list_all is_name names)) (names_named fields)
    (λ names are. and_from (is_name name) (list_all is_name names) is are))

wave_named : (arguments : Record) → IfOk (wave_of arguments) IsNamed
wave_named arguments = after (one_of arguments) name_read IsNamed name_named

-- a command names names
abbrev IsCommand : Command → Type 0
IsCommand c = IsTrue (has_names c)

submission_named : (arguments : Record) → IfOk (submission_of arguments) IsCommand
submission_named [] = tt
submission_named (wave ∷ orders) = either IsCommand (nat_le (length orders) most_named) _ why.Columns
    (then_ok (name_read wave) _ IsNamed IsCommand (name_named wave)
    (λ w is. then_ok (names_read orders) _ (λ names. IsTrue (list_all is_name names)) IsCommand (names_named orders)
    (λ names are. and_from (is_name w) (list_all is_name names) is are)))

of_wave_named : (make : List ℕ → Command) (arguments : Record) → ((wave : List ℕ) → IsNamed wave → IsCommand (make wave))
    → IfOk (of_wave make arguments) IsCommand
of_wave_named make arguments each = then_ok (wave_of arguments) _ IsNamed IsCommand (wave_named arguments) each

-- the wave and the order that four fields name are names
abbrev IsHold : NamedHold → Type 0
IsHold hold = IsTrue (is_name hold.wave && is_name hold.order)

hold_named : (arguments : Record) → IfOk (hold_of arguments) IsHold
hold_named arguments =
    after (four_of arguments) _ IsHold
    (λ four. then_ok (name_read four.0) _ IsNamed IsHold (name_named four.0)
    (λ wave is_wave. then_ok (name_read four.1) _ IsNamed IsHold (name_named four.1)
    (λ order is_order. after (location_read four.2) _ IsHold
    (λ location. after (quantity_read four.3) _ IsHold
    (λ quantity. and_from (is_name wave) (is_name order) is_wave is_order)))))

of_hold_named : (make : List ℕ → List ℕ → Location → ℕ → Command) (arguments : Record)
    → ((hold : NamedHold) → IsHold hold → IsCommand (make hold.wave hold.order hold.location hold.quantity)) → IfOk (of_hold make arguments) IsCommand
of_hold_named make arguments each = then_ok (hold_of arguments) _ IsHold IsCommand (hold_named arguments) each

receipt_named : (arguments : Record) → IfOk (receipt_of arguments) IsCommand
receipt_named arguments =
    after (three_of arguments) _ IsCommand
    (λ three. after (location_read three.0) _ IsCommand
    (λ location. then_ok (name_read three.1) _ IsNamed IsCommand (name_named three.1)
    (λ article is. after (quantity_read three.2) _ IsCommand (λ quantity. is))))

command_named : (w : Word) (arguments : Record) → IfOk (command_of w arguments) IsCommand
command_named word.Submit arguments = submission_named arguments
command_named word.Allot arguments = of_wave_named command.Allot arguments (λ wave is. is)
command_named word.Release arguments = of_wave_named command.Release arguments (λ wave is. is)
command_named word.Cancel arguments = of_wave_named command.Cancel arguments (λ wave is. is)
command_named word.Pick arguments = of_hold_named command.Pick arguments (λ hold is. is)
command_named word.Missing arguments = of_hold_named command.Missing arguments (λ hold is. is)
command_named word.Receive arguments = receipt_named arguments

-- a desk's command names names
abbrev IsAsked : DeskCommand → Type 0
IsAsked asked = IsCommand asked.command

-- a command of a desk that fields write names names
pub command_in_fields_named : (fields : Record) → IfOk (command_in_fields fields) (λ asked. IsTrue (has_names asked.command))
command_in_fields_named [] = tt
command_in_fields_named (a ∷ []) = tt
command_in_fields_named (desk ∷ text ∷ arguments) =
    after (texts_of (desk ∷ text ∷ arguments)) _ IsAsked
    (λ texts. after (desk_read desk) _ IsAsked
    (λ d. after (word_read text) _ IsAsked
    (λ w. then_ok (command_of w arguments) _ IsCommand IsAsked (command_named w arguments) (λ c is. is))))
