-- The desks' commands and their scripts as they are kept.
use Rattle.std.specs.Prelude.{◌≡◌, ℕ, ◌<◌, ◌≤◌, IsTrue, List, length, map}
use Rattle.std.specs.List.{All, range_with_len}
use Rattle.wp_model.specs.History.{Script}
use Rattle.wp_model.specs.Plain.{has_names, is_plain}
use Rattle.wp_model.specs.Limits.{most_commands}
use Rattle.wp_tables.specs.DeskFile.{desks_in, is_desk, script_from, submissions}
use Rattle.wp_tables.specs.declared.scripts.DeskCommand.{DeskCommand}
use Rattle.wp_tables.specs.declared.scripts.DeskScript.{DeskScript}

-- a desk's command as it is read: the desk is one, and the command is plain and names names
pub record IsReadCommand (asked : DeskCommand) : Type 0 where
  pub of_desk : IsTrue (is_desk asked.desk)
  pub is_plain : IsTrue (is_plain asked.command)
  pub named : IsTrue (has_names asked.command)

-- commands as they are read, not too many, the number of those that submit a wave, and how many desks there are
pub record AreKeptCommands (commands : List DeskCommand) (submitted desks : ℕ) : Type 0 where
  pub each : All IsReadCommand commands
  pub most : length commands ≤ most_commands
  pub counted : submitted ≡ submissions commands
  pub last : desks ≡ desks_in commands

-- a command as it is read may follow, where there is room for one
pub record MayFollow (commands : List DeskCommand) (asked : DeskCommand) : Type 0 where
  pub room : length commands < most_commands
  pub read : IsReadCommand asked

-- a desk's script, as contracts see it
abbrev pub script_in : DeskScript → Script
script_in script = record { desk = script.desk; commands = script.commands.items }

-- these are the scripts of so many desks, from desk 1 on, to which these commands were dealt out
abbrev pub AreDealt : List DeskCommand → ℕ → List DeskScript → Type 0
AreDealt commands desks scripts = map script_in scripts ≡ map (script_from commands) (range_with_len 1 desks)
