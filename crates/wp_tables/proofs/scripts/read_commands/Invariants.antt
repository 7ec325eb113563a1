use Rattle.std.proofs.Common.{◌≡◌, [], length}
use Rattle.wp_tables.specs.DeskFile.{script_after}
use Rattle.wp_tables.specs.Reading.{made_by}
use Rattle.wp_tables.specs.RecordsLeft.{IsReading, kept_left}
use Rattle.wp_tables.proofs.scripts.read_commands.Given as goal

-- the records that are left make of the commands so far what all records make
abbrev pub invariant-loop-commands : goal.invariant-loop-commands
invariant-loop-commands l = (made_by script_after [] (kept_left l.fn.records) ≡ made_by script_after l.commands (kept_left l.records)) × IsReading l.records

abbrev pub decreases-loop-commands : goal.decreases-loop-commands
decreases-loop-commands l = length (kept_left l.records)
