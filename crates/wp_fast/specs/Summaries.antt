-- What a summary tells: the least length from each class before a run of aisles to each class after it.
use Rattle.std.specs.Prelude.{ℕ, ◌<◌, Option, IfSome}
use Rattle.wp_classes.specs.declared.class.Class.{Class}
use Rattle.wp_classes.specs.declared.class.Class.TheVariants.{UU1, E01, ZE1, EE1, EE2, Z00, Z01}
use Rattle.wp_classes.specs.Least.{lesser, sum_of}
use Rattle.wp_fast.specs.declared.row.LengthRow.{LengthRow}
use Rattle.wp_fast.specs.declared.summary.Summary.{Summary}
use Rattle.wp_fast.specs.Rows.{length_to}

-- the lengths from a class before the run
abbrev pub row_from : Summary → Class → LengthRow
row_from summary UU1 = summary.uu1
row_from summary E01 = summary.e01
row_from summary ZE1 = summary.ze1
row_from summary EE1 = summary.ee1
row_from summary EE2 = summary.ee2
row_from summary Z00 = summary.z00
row_from summary Z01 = summary.z01

-- the length from a class before the run to a class after it, where there is one
abbrev pub length_between : Summary → Class → Class → Option ℕ
length_between summary before after = length_to (row_from summary before) after

-- each length of a summary is below this
abbrev pub AreBelow : ℕ → Summary → Type 0
AreBelow bound summary = (before after : Class) → IfSome (length_between summary before after) (λ t. t < bound)

-- the length past two runs by a class between: to it past the first, and on from it past the next
abbrev pub length_by : Summary → Summary → Class → Class → Class → Option ℕ
length_by first next before after between
    = sum_of (length_between first before between) (length_between next between after)

-- the least length past two runs, over the class between
abbrev pub least_by : Summary → Summary → Class → Class → Option ℕ
least_by first next before after =
    lesser (length_by first next before after UU1)
    (lesser (length_by first next before after E01) (lesser (length_by first next before after ZE1)
    (lesser (length_by first next before after EE1)
    (lesser (length_by first next before after EE2) (lesser (length_by first next before after Z00)
    (length_by first next before after Z01))))))
