use Rattle.std.proofs.Common.{ℕ, ◌<◌, Contains}
use Rattle.wp_lengths.specs.Batchings.{batch_at}
use Rattle.wp_batch.proofs.last_places.place_with.Given as goal

abbrev pub invariant-loop-place : goal.invariant-loop-place
invariant-loop-place l = (k : ℕ) → k < l.place → Contains (batch_at l.batches k) l.order → ⊥
