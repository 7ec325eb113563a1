use Rattle.wp_lengths.specs.Waves.{WavePicks}
use Rattle.wp_node.specs.Finds.{AreFinds}
use Rattle.wp_node.proofs.finds.keep_found.Given as goal

abbrev pub invariant-loop-place : goal.invariant-loop-place
invariant-loop-place l = (wave : WavePicks) → AreFinds wave l.fn.kept.items → AreFinds wave l.fn.found → AreFinds wave l.kept.items
