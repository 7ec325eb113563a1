use Rattle.std.proofs.Common.{◌≡◌, ◌++◌, take}
use Rattle.std.specs.List.{flat_map}
use Rattle.wp_sheets.specs.StockLines.{refill_line}
use Rattle.wp_sheets.proofs.stock_lines.append_refill.Given as goal

-- the holds so far were written
abbrev pub invariant-loop-hold : goal.invariant-loop-hold
invariant-loop-hold l = l.text.items ≡ l.fn.text.items ++ flat_map (refill_line l.stock l.refill) (take l.hold-index l.refill.holds)
