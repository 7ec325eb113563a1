use Rattle.std.proofs.Common.{◌≡◌, length}
use Rattle.wp_model.specs.TableLines.{empty_stock}
use Rattle.wp_tables.specs.Reading.{made_by}
use Rattle.wp_tables.specs.RecordsLeft.{IsReading, kept_left}
use Rattle.wp_tables.specs.StockFile.{stock_after}
use Rattle.wp_tables.proofs.stock.read_rows.Given as goal

-- the records that are left make of the stock so far what all records make
abbrev pub invariant-loop-stock : goal.invariant-loop-stock
invariant-loop-stock l = (made_by (stock_after l.layout) empty_stock (kept_left l.fn.records)
    ≡ made_by (stock_after l.layout) l.stock.made (kept_left l.records))
    × IsReading l.records
    × (l.stock.key ≡ l.fn.key)

abbrev pub decreases-loop-stock : goal.decreases-loop-stock
decreases-loop-stock l = length (kept_left l.records)
