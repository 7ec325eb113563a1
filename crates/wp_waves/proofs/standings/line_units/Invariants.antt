use Rattle.std.proofs.Common.{◌≡◌, take}
use Rattle.wp_model.specs.Opening.{line_units}
use Rattle.wp_waves.proofs.standings.line_units.Given as goal

-- the units of the lines so far
abbrev pub invariant-loop-line : goal.invariant-loop-line
invariant-loop-line l = l.units ≡ line_units (take l.line-index l.lines)
