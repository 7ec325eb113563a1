use Rattle.wp_pairs.proofs.RowChanges.{AreSingleBelow}
use Rattle.wp_pairs.proofs.rows.single_rows.Given as goal

abbrev pub invariant-loop-order : goal.invariant-loop-order
invariant-loop-order l = AreSingleBelow l.rows l.order
