use Rattle.std.proofs.Common.{◌≡◌, take}
use Rattle.wp_waves.specs.Turns.{lines_demand}
use Rattle.wp_waves.proofs.free_stock.lines_demand.Given as goal

-- what the lines so far want
abbrev pub invariant-loop-line : goal.invariant-loop-line
invariant-loop-line l = l.units ≡ lines_demand (take l.line-index l.lines) l.article
