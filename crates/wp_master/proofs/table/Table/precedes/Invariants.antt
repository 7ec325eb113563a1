use Rattle.wp_master.specs.Choices.{AgreeBefore}
use Rattle.wp_master.proofs.table.Table.precedes.Given as goal

abbrev pub invariant-loop-j : goal.invariant-loop-j
invariant-loop-j l = AgreeBefore l.self l.row l.other l.place l.j
