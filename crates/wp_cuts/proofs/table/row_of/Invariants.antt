use Rattle.wp_cuts.proofs.TableRows.{IsRowBelow}
use Rattle.wp_cuts.proofs.table.row_of.Given as goal

abbrev pub invariant-loop-at : goal.invariant-loop-at
invariant-loop-at l = IsRowBelow l.cuts.items l.order l.row l.at
