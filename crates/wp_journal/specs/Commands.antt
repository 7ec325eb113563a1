-- The command that words write. What isn't tested here is tested where the line is compared.
use Rattle.std.specs.Prelude.{ℕ, nat_le, List, [], ◌∷◌, length, codes, Option, Some, None, option_map, if◌then◌else◌}
use Rattle.std.specs.Option.{option_and_then}
use Rattle.std.specs.Str.{bytes_eq}
use Rattle.wp_model.specs.Limits.{most_named}
use Rattle.wp_model.specs.Location.{location_of}
use Rattle.wp_model.specs.Name.{name_in}
use Rattle.wp_model.specs.declared.command.Command.{Command}
use Rattle.wp_model.specs.declared.command.Command.TheVariants as command
use Rattle.wp_journal.specs.Numbers.{small_of}
use Rattle.wp_journal.specs.Splits.{Word}

-- the names that words are
abbrev pub names_in : List Word → Option (List (List ℕ))
names_in [] = Some []
names_in (word ∷ words) = option_and_then (λ name. option_map (λ names. name ∷ names) (names_in words)) (name_in word)

-- Submit: a wave, and then its orders, not too many
abbrev pub submission_in : List Word → Option Command
submission_in [] = None
submission_in (wave ∷ orders) =
    if nat_le (length orders) most_named then option_and_then (λ w. option_map (command.Submit w) (names_in orders))
    (name_in wave) else None

-- a command on a wave, by its word
abbrev pub wave_command : Word → List ℕ → Option Command
wave_command word wave =
    if bytes_eq word (codes "allot") then Some (command.Allot wave)
    else if bytes_eq word (codes "release") then Some (command.Release wave)
    else if bytes_eq word (codes "cancel") then Some (command.Cancel wave)
    else None

-- Receive: a location, an article and a quantity
abbrev pub receipt_in : Word → Word → Word → Option Command
receipt_in location article quantity =
    option_and_then (λ l. option_and_then (λ a. option_map (command.Receive l a) (small_of quantity)) (name_in article))
    (location_of location)

-- Pick: a wave, an order, a location and a quantity
abbrev pub pick_in : Word → Word → Word → Word → Option Command
pick_in wave order location quantity =
    option_and_then (λ w. option_and_then (λ o. option_and_then
    (λ l. option_map (command.Pick w o l) (small_of quantity)) (location_of location))
    (name_in order)) (name_in wave)

-- Missing: the same
abbrev pub missing_in : Word → Word → Word → Word → Option Command
missing_in wave order location quantity =
    option_and_then (λ w. option_and_then (λ o. option_and_then
    (λ l. option_map (command.Missing w o l) (small_of quantity)) (location_of location))
    (name_in order)) (name_in wave)

-- a command that takes no memory, by its word and its arguments
abbrev pub other_command : Word → List Word → Option Command
other_command word [] = None
other_command word (wave ∷ []) = option_and_then (wave_command word) (name_in wave)
other_command word (a ∷ b ∷ []) = None
other_command word (location ∷ article ∷ quantity ∷ []) = receipt_in location article quantity
other_command word (wave ∷ order ∷ location ∷ quantity ∷ []) =
    if bytes_eq word (codes "pick") then pick_in wave order location quantity
    else missing_in wave order location quantity
other_command word (a ∷ b ∷ c ∷ d ∷ e ∷ rest) = None

-- the command that words write
abbrev pub command_in : List Word → Option Command
command_in [] = None
command_in (word ∷ arguments) = if bytes_eq word (codes "submit") then submission_in arguments
    else other_command word arguments
