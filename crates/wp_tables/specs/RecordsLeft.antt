-- The records that are left to read.
use Rattle.std.specs.Prelude.{◌≡◌, ℕ, ◌+◌, ◌<◌, ◌^◌, false, true, List, [], ◌∷◌, length, Some}
use Rattle.std.specs.Borrow.{Bor}
use Rattle.std.specs.Option.{option_map_or}
use Rattle.csv.specs.Machine.{ends_at_end}
use Rattle.csv.specs.Reading.{Ready, default_config, is_flexible, reader_config, reader_state, reader_trim}
use Rattle.csv.specs.Reading.{records_from, source_of}
use Rattle.csv.specs.declared.reader.Trim.TheVariants as trim
use Rattle.wp_model.specs.TableLines.{Record}
use Rattle.wp_tables.specs.Records.{Kept, kept_from}
use Rattle.wp_tables.specs.declared.records.Records.{Records}

-- the bytes of the text that are left
abbrev pub bytes_left : Records → List ℕ
bytes_left r = option_map_or (λ bytes. bytes) (source_of (λ (text : Bor (List ℕ)). Some text.now) r.reader) []

-- the records that are left
abbrev pub records_left : Records → List Record
records_left r = records_from default_config (length (bytes_left r) + 1) (reader_state r.reader) (bytes_left r)

-- those of them that have a field
abbrev pub kept_left : Records → List Kept
kept_left r = kept_from (r.number + 1) (records_left r)

-- the reader stands between two records of a text, and goes on as it began
pub record IsReading (r : Records) : Type 0 where
  pub ready : Ready r.reader
  pub trim : reader_trim r.reader ≡ trim.None
  pub config : reader_config r.reader ≡ default_config
  pub flexible : is_flexible r.reader ≡ true
  pub between : ends_at_end (reader_state r.reader) ≡ false
  pub known : source_of (λ (text : Bor (List ℕ)). Some text.now) r.reader ≡ Some (bytes_left r)
  pub few : r.number + length (bytes_left r) < 2 ^ 64

-- a record was taken from those that are left
pub record TakesRecord (before : Records) (fields : Record) (after : Records) : Type 0 where
  pub left : records_left before ≡ fields ∷ records_left after
  pub number : after.number ≡ before.number + 1
  pub shorter : length (bytes_left after) < length (bytes_left before)
  pub reading : IsReading after
