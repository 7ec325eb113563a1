use Rattle.wp_cuts.proofs.KeptParts.{AreKindsBelow}
use Rattle.wp_cuts.proofs.cut.kinds_of.Given as goal

abbrev pub invariant-loop-kind : goal.invariant-loop-kind
invariant-loop-kind l = AreKindsBelow l.orders l.parts l.kinds l.kind
