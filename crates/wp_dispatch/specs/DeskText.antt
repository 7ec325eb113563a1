-- The desk file that is printed for waves that go out, and what it says.
use Rattle.std.specs.Prelude.{◌≡◌, ℕ, ◌≤◌, ◌==◌, IsTrue, List, [], ◌∷◌, ◌++◌, Ok, codes, if◌then◌else◌, length, map}
use Rattle.std.specs.List.{All, flat_map, range_with_len}
use Rattle.wp_model.specs.History.{Script}
use Rattle.wp_model.specs.Journal.{line}
use Rattle.wp_model.specs.Limits.{most_wave_orders}
use Rattle.wp_model.specs.Name.{is_name}
use Rattle.wp_model.specs.declared.command.Command.{Command}
use Rattle.wp_outgoing.specs.Lines.{sending_lines}
use Rattle.wp_outgoing.specs.Sending.{orders_of, sendings_of}
use Rattle.wp_outgoing.specs.WavesOut.{name_out, orders_out}
use Rattle.wp_outgoing.specs.declared.lines.WaveOut.{WaveOut}
use Rattle.wp_tables.specs.DeskFile.{scripts_said}
use Rattle.wp_waves.specs.declared.open_orders.OpenOrder.{OpenOrder}

-- the desk file of waves: its heading, and the lines of each wave
abbrev pub desk_text : ℕ → List WaveOut → List ℕ
desk_text desk waves = line (codes "desk,command,arguments") ++ flat_map (sending_lines desk) waves

-- a wave may be printed: its name is one, it has no more orders than a wave may have, and their names are names
pub record MayBePrinted (wave : WaveOut) : Type 0 where
  pub named : IsTrue (is_name wave.name)
  pub few : length wave.orders.items ≤ most_wave_orders
  pub orders : All (λ (one : OpenOrder). IsTrue (is_name one.order)) wave.orders.items

-- the commands that send waves out, one after the other
abbrev pub commands_out : List WaveOut → List Command
commands_out waves = sendings_of (map name_out waves) (orders_of (map orders_out waves))

-- the script of a desk where one desk asks for these commands, and the others for nothing
abbrev pub script_where : ℕ → List Command → ℕ → Script
script_where asking commands desk = record { desk = desk; commands = if asking == desk then commands else [] }

-- the scripts of so many desks, of which the last asks for these commands, and the others for nothing
abbrev pub only_last : ℕ → List Command → List Script
only_last desks commands = map (script_where desks commands) (range_with_len 1 desks)

-- how many desks the desk file of waves has: those up to the one that sends them out, and one where there is no wave
abbrev pub desks_out : ℕ → List WaveOut → ℕ
desks_out desk [] = 1
desks_out desk (wave ∷ waves) = desk

-- the desk file of waves says that just their commands are asked for, by this desk
abbrev pub IsReadAsPrinted : ℕ → List WaveOut → Type 0
IsReadAsPrinted desk waves =
    scripts_said (desk_text desk waves) ≡ Ok (only_last (desks_out desk waves) (commands_out waves))
