use Rattle.std.proofs.Common.{◌≡◌, [], length}
use Rattle.wp_tables.specs.RecordsLeft.{IsReading, kept_left}
use Rattle.wp_waves.specs.OpenFile.{open_made}
use Rattle.wp_waves.proofs.open_orders.read_records.Given as goal

-- the records that are left make of the open orders so far what all records make
abbrev pub invariant-loop-so_far : goal.invariant-loop-so_far
invariant-loop-so_far l =
    (open_made l.orders [] (kept_left l.fn.records) ≡ open_made l.orders l.so_far.listed (kept_left l.records))
    × IsReading l.records
    × (l.so_far.orders ≡ l.orders)

abbrev pub decreases-loop-so_far : goal.decreases-loop-so_far
decreases-loop-so_far l = length (kept_left l.records)
