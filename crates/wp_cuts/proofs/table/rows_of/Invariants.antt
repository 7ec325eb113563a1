use Rattle.wp_cuts.proofs.TableRows.{AreRowsBelow}
use Rattle.wp_cuts.proofs.table.rows_of.Given as goal

abbrev pub invariant-loop-order : goal.invariant-loop-order
invariant-loop-order l = AreRowsBelow l.cuts.items l.rows.items l.order
