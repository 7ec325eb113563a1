use Rattle.std.proofs.Common.{◌≢◌, ◌<◌, ℕ}
use Rattle.std.specs.Prelude.{Some, slice_get}
use Rattle.wp_lengths.specs.Batchings.{batch_at}
use Rattle.wp_batch.proofs.listing.place_of.Given as goal

abbrev pub invariant-loop-place : goal.invariant-loop-place
invariant-loop-place l = (place : ℕ) → place < l.place → slice_get (batch_at l.batches place) 0 ≢ Some l.order
