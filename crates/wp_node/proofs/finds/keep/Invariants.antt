use Rattle.wp_lengths.specs.Waves.{WavePicks}
use Rattle.wp_node.specs.Finds.{AreFinds, IsFind}
use Rattle.wp_node.proofs.finds.keep.Given as goal

abbrev pub invariant-loop : goal.invariant-loop
invariant-loop l = (wave : WavePicks) → AreFinds wave l.fn.kept.items → IsFind wave l.fn.find → AreFinds wave l.kept.items
