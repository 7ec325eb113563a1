-- What the words of a command line say that asks for waves.
use Rattle.std.specs.Prelude.{◌≡◌, ◌≤◌, ℕ, List, [], ◌∷◌, codes, Option, Some, if◌then◌else◌, Result, Err}
use Rattle.std.specs.Str.{bytes_eq}
use Rattle.clap.specs.Words.{Row, Text, first_of}
use Rattle.wp_model.specs.Limits.{greatest_desk, most_submissions, most_wave_orders}
use Rattle.wp_waves_words.specs.Limits.{most_effort}
use Rattle.wp_waves_words.specs.Options.{waves_command}
use Rattle.wp_words.specs.Limits.{AreUnits, most_capacity}
use Rattle.wp_words.specs.Words.{made_into, matched, number_read, option_number, value_of}
use Rattle.wp_words.specs.declared.fault.WordsFault.{WordsFault}
use Rattle.wp_words.specs.declared.fault.WordsFault.TheVariants as fault

-- the names and the numbers that the options of `waves` give: the units are those that a cart holds, if carts have such
-- a limit, and the open file and the journal are there where their options were given
pub record WavesNames : Type 0 where
  pub layout : Text
  pub stock : Text
  pub orders : Text
  pub wave : ℕ
  pub capacity : ℕ
  pub units : Option ℕ
  pub open_file : Option Text
  pub journal : Option Text
  pub most : ℕ
  pub desk : ℕ
  pub effort : ℕ

-- each number of `waves` lies in its range
pub record HasWavesRanges (names : WavesNames) : Type 0 where
  pub some_wave : 1 ≤ names.wave
  pub wave : names.wave ≤ most_wave_orders
  pub some_capacity : 1 ≤ names.capacity
  pub capacity : names.capacity ≤ most_capacity
  pub cart : AreUnits names.units
  pub some_most : 1 ≤ names.most
  pub most : names.most ≤ most_submissions
  pub some_desk : 1 ≤ names.desk
  pub desk : names.desk ≤ greatest_desk
  pub effort : names.effort ≤ most_effort

-- the names and the numbers that were matched for `waves`
abbrev pub waves_names_of : List Row → WavesNames
waves_names_of rows = record {
  layout = value_of rows (codes "layout");
  stock = value_of rows (codes "stock");
  orders = value_of rows (codes "orders");
  wave = option_number rows (codes "wave");
  capacity = option_number rows (codes "capacity");
  units = number_read (codes "units") rows;
  open_file = first_of (codes "open") rows;
  journal = first_of (codes "journal") rows;
  most = option_number rows (codes "most");
  desk = option_number rows (codes "desk");
  effort = option_number rows (codes "effort");
}

-- what words say after `waves`
abbrev pub waves_said : List Text → Result WavesNames WordsFault
waves_said words = made_into waves_names_of (matched waves_command words)

-- the waves that words ask for: the first is `waves`, and the others are the words of its command
unfoldable pub waves_asked : List Text → Result WavesNames WordsFault
waves_asked [] = Err fault.NoMode
waves_asked (mode ∷ words) = if bytes_eq mode (codes "waves") then waves_said words else Err fault.UnknownMode

-- clap states these values for the options of `waves`: the units, the open file and the journal are there exactly where
-- their options were given
pub record AreWavesValues (rows : List Row) (names : WavesNames) : Type 0 where
  pub layout : first_of (codes "layout") rows ≡ Some names.layout
  pub stock : first_of (codes "stock") rows ≡ Some names.stock
  pub orders : first_of (codes "orders") rows ≡ Some names.orders
  pub wave : number_read (codes "wave") rows ≡ Some names.wave
  pub capacity : number_read (codes "capacity") rows ≡ Some names.capacity
  pub units : number_read (codes "units") rows ≡ names.units
  pub open_file : first_of (codes "open") rows ≡ names.open_file
  pub journal : first_of (codes "journal") rows ≡ names.journal
  pub most : number_read (codes "most") rows ≡ Some names.most
  pub desk : number_read (codes "desk") rows ≡ Some names.desk
  pub effort : number_read (codes "effort") rows ≡ Some names.effort
