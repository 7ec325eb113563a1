use Rattle.std.proofs.Common.{◌≡◌, ◌-◌, ◌++◌, string_bytes}
use Rattle.std.specs.List.{flat_map, range_with_len}
use Rattle.wp_make.specs.Records.{aisle_records}
use Rattle.wp_make.specs.Texts.{record_line}
use Rattle.wp_tables.specs.StockFile.{stock_heading}
use Rattle.wp_make.proofs.stock.made_stock_text.Given as goal

-- the heading was written, and the rows of the aisles before this one
abbrev pub invariant-loop-aisle : goal.invariant-loop-aisle
invariant-loop-aisle l = string_bytes l.text ≡ record_line stock_heading
    ++ flat_map (λ aisle. flat_map record_line (aisle_records aisle)) (range_with_len 1 (l.aisle - 1))
