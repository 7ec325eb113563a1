use Rattle.wp_master.specs.Choices.{IsLeaving}
use Rattle.wp_master.proofs.table.Table.leaving_row.Given as goal

abbrev pub invariant-loop-row : goal.invariant-loop-row
invariant-loop-row l = IsLeaving l.self l.place l.row l.best
