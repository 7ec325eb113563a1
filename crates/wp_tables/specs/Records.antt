-- The records of a table's text.
use Rattle.std.specs.Prelude.{◌≡◌, ℕ, ◌+◌, List, [], ◌∷◌, Some, slice_get}
use Rattle.csv.specs.Reading.{default_config, records, strip_bom}
use Rattle.wp_model.specs.TableLines.{Record}

-- the records of a text, a byte order mark at its start left out, each as the list of its fields
abbrev pub records_in : List ℕ → List Record
records_in text = records default_config (strip_bom text)

-- a field before others: an empty one is left out where it would be the last
abbrev pub field_before : List ℕ → Record → Record
field_before [] [] = []
field_before [] (field ∷ fields) = [] ∷ field ∷ fields
field_before (byte ∷ bytes) fields = (byte ∷ bytes) ∷ fields

-- a record without its trailing empty fields
abbrev pub trimmed : Record → Record
trimmed [] = []
trimmed (field ∷ fields) = field_before field (trimmed fields)

-- a record that has a field left, with its number in the file
pub record Kept : Type 0 where
  pub number : ℕ
  pub fields : Record

-- a record before others, passed over where it has no field
abbrev pub kept_before : ℕ → Record → List Kept → List Kept
kept_before number [] rest = rest
kept_before number (field ∷ fields) rest = record { number = number; fields = field ∷ fields } ∷ rest

-- the records that have a field left, where the first of all has this number
abbrev pub kept_from : ℕ → List Record → List Kept
kept_from number [] = []
kept_from number (fields ∷ records) = kept_before number (trimmed fields) (kept_from (number + 1) records)

-- the records of a text that have a field left. The records of a text are numbered from 1
abbrev pub kept_in : List ℕ → List Kept
kept_in text = kept_from 1 (records_in text)

-- a kept record is the one at a place of these records, counted from 0, without its trailing empty fields, and its
-- number is one more
pub record IsAmong (records : List Record) (kept : Kept) : Type 0 where
  pub place : ℕ
  pub fields : Record
  pub at : slice_get records place ≡ Some fields
  pub number : kept.number ≡ place + 1
  pub trims : kept.fields ≡ trimmed fields
