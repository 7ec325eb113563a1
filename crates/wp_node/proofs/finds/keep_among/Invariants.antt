use Rattle.std.proofs.Common.{◌≡◌, length}
use Rattle.wp_lengths.specs.Waves.{WavePicks}
use Rattle.wp_node.specs.Finds.{AreFinds, IsFind}
use Rattle.wp_node.proofs.finds.keep_among.Given as goal

abbrev pub invariant-loop-at : goal.invariant-loop-at
invariant-loop-at l = record {
  whole : length l.kept.items ≡ length l.fn.kept.items;
  finds : (wave : WavePicks) → AreFinds wave l.fn.kept.items → IsFind wave l.fn.find → AreFinds wave l.kept.items × IsFind wave l.next;
}
