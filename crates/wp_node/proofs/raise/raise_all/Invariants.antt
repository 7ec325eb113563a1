use Rattle.wp_node.specs.Raises.{AreListedTight, AreNoLower, IsStart}
use Rattle.wp_node.proofs.raise.raise_all.Given as goal

abbrev pub invariant-loop-order : goal.invariant-loop-order
invariant-loop-order g l = record {
  start : IsStart l.paired.wave.now l.paired.pairs.now l.duals;
  no_lower : AreNoLower l.initial.duals l.duals;
  tight : AreListedTight l.paired.wave.now l.paired.pairs.now l.duals l.order l.tight.items;
}
