use Rattle.std.proofs.Common.{◌≡◌, ◌++◌, take}
use Rattle.std.specs.List.{flat_map}
use Rattle.wp_sheets.specs.Sheets.{point_after_space}
use Rattle.wp_sheets.proofs.batch.print_points.Given as goal

-- the points so far were written
abbrev pub invariant-loop-point : goal.invariant-loop-point
invariant-loop-point l = l.text.items ≡ l.fn.text.items ++ flat_map point_after_space (take l.point-index l.walk)
