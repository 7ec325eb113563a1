use Rattle.std.proofs.Common.{◌<◌, ℕ, All, pos, ◌*ℤ◌, ◌≤ℤ◌}
use Rattle.wp_lengths.specs.Waves.{WavePicks}
use Rattle.wp_pairs.specs.Permitted.{Pairing}
use Rattle.wp_lp.specs.Parts.{IsWeightedBatch, cost_of}
use Rattle.wp_lp.specs.Runs.{IsPermittedPool}
use Rattle.wp_lp.proofs.Starts.{IsEnoughSoFar, weighed_before}
use Rattle.wp_lp.proofs.start.solved_parts.Given as goal

abbrev pub invariant-loop-column : goal.invariant-loop-column
invariant-loop-column l = record {
  enough : (order : ℕ) → order < l.pool.orders → IsEnoughSoFar l.pool l.pair.weights.items l.pair.denominator order l.column l.parts.items;
  cost : pos (cost_of l.parts.items) ≤ℤ (pos 60 *ℤ weighed_before l.pool l.pair.weights.items l.column);
  each : (wave : WavePicks) (pairing : Pairing) → IsPermittedPool wave pairing l.pool → All (IsWeightedBatch wave pairing) l.parts.items;
}
