use Rattle.std.proofs.Common.{◌<◌, ℕ}
use Rattle.wp_graph.specs.PickSets.{AreSlots}
use Rattle.wp_lengths.specs.Waves.{picks_of}
use Rattle.wp_cert.proofs.own.each_batch_has_a_length.Given as goal

abbrev pub invariant-loop-order : goal.invariant-loop-order
invariant-loop-order l = (lower : ℕ) → lower < l.order → AreSlots l.wave.layout (picks_of l.wave lower)
