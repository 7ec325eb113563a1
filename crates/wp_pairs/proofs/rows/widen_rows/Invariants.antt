use Rattle.wp_pairs.proofs.RowChanges.{AreWidenedBelow}
use Rattle.wp_pairs.proofs.rows.widen_rows.Given as goal

abbrev pub invariant-loop-order : goal.invariant-loop-order
invariant-loop-order l = AreWidenedBelow l.fn.rows l.rows l.batch l.orders l.order
