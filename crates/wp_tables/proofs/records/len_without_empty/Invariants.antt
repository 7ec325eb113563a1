use Rattle.std.proofs.Common.{◌≡◌, ◌≤◌, length, take}
use Rattle.csv.specs.Records.{fields_of}
use Rattle.wp_tables.specs.Records.{trimmed}
use Rattle.wp_tables.proofs.records.len_without_empty.Given as goal

-- the fields after so many are empty
abbrev pub invariant-loop-len : goal.invariant-loop-len
invariant-loop-len l = (trimmed (take l.len (fields_of l.fields)) ≡ trimmed (fields_of l.fields)) × (l.len ≤ length (fields_of l.fields))

abbrev pub decreases-loop-len : goal.decreases-loop-len
decreases-loop-len l = l.len
