use Rattle.std.proofs.Common.{◌+◌, ◌*◌}
use Rattle.wp_lengths.specs.KeptLengths.{HaveLengths}
use Rattle.wp_lengths.proofs.wave.Wave.+keeping.Given as goal

abbrev pub decreases-keep_all : goal.decreases-keep_all
decreases-keep_all l = 2 * l.later.most + 1

abbrev pub decreases-keep_wider : goal.decreases-keep_wider
decreases-keep_wider l = 2 * l.later.most

abbrev pub invariant-keep_all-loop-order : goal.invariant-keep_all-loop-order
invariant-keep_all-loop-order l = HaveLengths l.self l.lengths
