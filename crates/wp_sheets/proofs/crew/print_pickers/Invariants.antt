use Rattle.std.proofs.Common.{◌≡◌, ◌++◌}
use Rattle.std.specs.List.{flat_map, range_with_len}
use Rattle.wp_sheets.specs.Crews.{picker_line}
use Rattle.wp_sheets.proofs.crew.print_pickers.Given as goal

-- the lines of the pickers so far were written
abbrev pub invariant-loop-picker : goal.invariant-loop-picker
invariant-loop-picker l = l.text.items ≡ l.fn.text.items ++ flat_map (picker_line l.crew l.names l.numbers) (range_with_len 0 l.picker)
