use Rattle.std.proofs.Common.{◌≡◌, [], length}
use Rattle.wp_model.specs.Tables.{AreReadOrders}
use Rattle.wp_tables.specs.OrderFile.{orders_after}
use Rattle.wp_tables.specs.Reading.{made_by}
use Rattle.wp_tables.specs.RecordsLeft.{IsReading, kept_left}
use Rattle.wp_tables.proofs.orders.read_lines.Given as goal

-- the records that are left make of the orders so far what all records make
abbrev pub invariant-loop-orders : goal.invariant-loop-orders
invariant-loop-orders l =
    (made_by (orders_after l.stock.articles) [] (kept_left l.fn.records) ≡ made_by (orders_after l.stock.articles) l.orders.made (kept_left l.records))
    × IsReading l.records
    × AreReadOrders l.stock.articles l.orders.made
    × (l.orders.key ≡ l.fn.key)

abbrev pub decreases-loop-orders : goal.decreases-loop-orders
decreases-loop-orders l = length (kept_left l.records)
