use Rattle.wp_cuts.proofs.TableRows.{ArePartsBelow}
use Rattle.wp_cuts.proofs.table.CutTable.parts_of.Given as goal

abbrev pub invariant-loop-order : goal.invariant-loop-order
invariant-loop-order l = ArePartsBelow l.self l.batch l.sums l.order
