use Rattle.std.proofs.Common.{◌≡◌, length}
use Rattle.wp_tables.specs.RecordsLeft.{IsReading, bytes_left, kept_left}
use Rattle.wp_tables.proofs.records.Records.next.Given as goal

-- the records that were passed over have no field
abbrev pub invariant-loop-fields : goal.invariant-loop-fields
invariant-loop-fields l = (kept_left l.fn.self ≡ kept_left l.self) × IsReading l.self

abbrev pub decreases-loop-fields : goal.decreases-loop-fields
decreases-loop-fields l = length (bytes_left l.self)
