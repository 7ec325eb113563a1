use Rattle.std.proofs.Common.{◌≡◌, ◌-◌, ◌++◌, string_bytes}
use Rattle.std.specs.List.{flat_map, range_with_len}
use Rattle.wp_make.specs.Records.{stock_record}
use Rattle.wp_make.specs.Texts.{record_line}
use Rattle.wp_make.proofs.stock.print_aisle.Given as goal

-- the rows of the slots before this one were written
abbrev pub invariant-loop-slot : goal.invariant-loop-slot
invariant-loop-slot l = string_bytes l.text
    ≡ string_bytes l.fn.text ++ flat_map (λ slot. record_line (stock_record l.aisle slot)) (range_with_len 1 (l.slot - 1))
