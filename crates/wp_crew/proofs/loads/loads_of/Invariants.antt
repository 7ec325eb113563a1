use Rattle.wp_crew.proofs.FirstLoads.{AreFirstLoads}
use Rattle.wp_crew.proofs.loads.loads_of.Given as goal

abbrev pub invariant-loop-place : goal.invariant-loop-place
invariant-loop-place l = AreFirstLoads l.lengths l.picker_of l.pickers l.place l.loads.items
