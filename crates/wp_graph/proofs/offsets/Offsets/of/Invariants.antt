use Rattle.std.proofs.Common.{◌≡◌, length, take}
use Rattle.wp_graph.specs.Offsets.{offset_words}
use Rattle.wp_graph.proofs.offsets.Offsets.of.Given as goal

abbrev pub invariant-loop-index : goal.invariant-loop-index
invariant-loop-index l = record {
  whole : length l.words ≡ 64;
  words : l.words ≡ offset_words (take l.index l.spacings);
}
