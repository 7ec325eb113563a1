-- Walks from batching to batching.
use Rattle.std.specs.Prelude.{◌≡◌, ℕ, length}
use Rattle.wp_lengths.specs.Batchings.{IsBatching}
use Rattle.wp_lengths.specs.Waves.{WavePicks}
use Rattle.wp_batch.specs.declared.walk.Walk.{Walk}

-- where a walk is there is a batching, and the cheapest that it came past is one of as many batches
pub record IsWalk (wave : WavePicks) (capacity : ℕ) (walk : Walk) : Type 0 where
  pub there : IsBatching wave capacity walk.batches.items
  pub best : IsBatching wave capacity walk.best.items
  pub count : length walk.best.items ≡ length walk.batches.items
