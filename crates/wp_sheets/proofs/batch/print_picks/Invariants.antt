use Rattle.std.proofs.Common.{◌≡◌, ◌++◌, take}
use Rattle.std.specs.List.{flat_map}
use Rattle.wp_sheets.specs.Sheets.{pick_line}
use Rattle.wp_sheets.proofs.batch.print_picks.Given as goal

-- the picks so far were written
abbrev pub invariant-loop-pick : goal.invariant-loop-pick
invariant-loop-pick l = l.text.items ≡ l.fn.text.items ++ flat_map (pick_line l.wave l.stock) (take l.pick-index l.picks)
