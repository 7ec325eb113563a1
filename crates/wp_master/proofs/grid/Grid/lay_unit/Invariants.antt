use Rattle.wp_master.specs.Spots.{IsLaid}
use Rattle.wp_master.proofs.grid.Grid.lay_unit.Given as goal

abbrev pub invariant-loop-row : goal.invariant-loop-row
invariant-loop-row l = IsLaid l.fn.self l.place l.own l.row l.self
