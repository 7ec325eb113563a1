use Rattle.wp_cuts.proofs.TableRows.{AreAddedBelow}
use Rattle.wp_cuts.proofs.table.add_row.Given as goal

abbrev pub invariant-loop-at : goal.invariant-loop-at
invariant-loop-at l = AreAddedBelow l.initial.sums l.row l.sums l.at
