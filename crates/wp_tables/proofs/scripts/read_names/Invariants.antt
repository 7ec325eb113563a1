use Rattle.std.proofs.Common.{◌≡◌, ◌+◌, drop, vec_len}
use Rattle.csv.specs.Records.{fields_of}
use Rattle.wp_tables.specs.DeskFile.{names_read}
use Rattle.wp_tables.proofs.Arguments.{names_then}
use Rattle.wp_tables.proofs.scripts.read_names.Given as goal

-- the names so far go before those of the fields that are left
abbrev pub invariant-loop-i : goal.invariant-loop-i
invariant-loop-i l = (names_read (drop l.at (fields_of l.fields)) ≡ names_then l.names.items (names_read (drop l.i (fields_of l.fields))))
    × (vec_len l.names + l.at ≡ l.i)
