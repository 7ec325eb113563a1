-- The lengths from one class before a run of aisles, and the numbers that stand for them.
use Rattle.std.specs.Prelude.{ℕ, ◌==◌, ◌&&◌, not, Bool, false, Option, Some, None, if◌then◌else◌}
use Rattle.wp_classes.specs.declared.class.Class.{Class}
use Rattle.wp_classes.specs.declared.class.Class.TheVariants.{UU1, E01, ZE1, EE1, EE2, Z00, Z01}
use Rattle.wp_fast.specs.declared.row.LengthsAcross.{LengthsAcross}
use Rattle.wp_fast.specs.declared.row.LengthRow.{LengthRow}
use Rattle.wp_fast.specs.declared.row.TheConstants.{NO_LENGTH}

-- the length to a class
abbrev pub length_at : LengthsAcross → Class → Option ℕ
length_at lengths UU1 = lengths.uu1
length_at lengths E01 = lengths.e01
length_at lengths ZE1 = lengths.ze1
length_at lengths EE1 = lengths.ee1
length_at lengths EE2 = lengths.ee2
length_at lengths Z00 = lengths.z00
length_at lengths Z01 = lengths.z01

-- the length that a number stands for: the greatest number stands for none, unless it is the length itself
abbrev pub length_for : ℕ → Bool → Option ℕ
length_for number itself = if (number == NO_LENGTH) && not itself then None else Some number

-- whether a length is the greatest number
abbrev pub is_greatest : Option ℕ → Bool
is_greatest None = false
is_greatest (Some number) = number == NO_LENGTH

-- the length to a class for which a row has a number
abbrev pub length_to : LengthRow → Class → Option ℕ
length_to row UU1 = length_for row.uu1 row.greatest.uu1
length_to row E01 = length_for row.e01 row.greatest.e01
length_to row ZE1 = length_for row.ze1 row.greatest.ze1
length_to row EE1 = length_for row.ee1 row.greatest.ee1
length_to row EE2 = length_for row.ee2 row.greatest.ee2
length_to row Z00 = length_for row.z00 row.greatest.z00
length_to row Z01 = length_for row.z01 row.greatest.z01
