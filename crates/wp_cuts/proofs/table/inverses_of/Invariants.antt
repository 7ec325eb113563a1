use Rattle.wp_cuts.proofs.TableRows.{AreInversesBelow}
use Rattle.wp_cuts.proofs.table.inverses_of.Given as goal

abbrev pub invariant-loop-at : goal.invariant-loop-at
invariant-loop-at l = AreInversesBelow l.cuts.items l.inverses.items l.at
