-- A disk that tells its counts alone.
use Rattle.std.specs.Prelude.{ℕ, None}
use Rattle.std.proofs.Common.{arith}
use Rattle.wp_store.specs.Disk.{DiskTold, IsDisk}

-- how often a disk failed, and how often it was called
pub record Counts : Type 0 where
  pub faults : ℕ
  pub calls : ℕ

-- what it tells
abbrev pub untold : Counts → DiskTold
untold counts = record {
  holds = None;
  images = λ image. Unit {0};
  moment = 0;
  images_since = λ t image. Unit {0};
  syncs = 0;
  sync_at = λ k. 0;
  faults = counts.faults;
  calls = counts.calls;
}

-- it is a disk
pub untold_is_disk : (counts : Counts) → IsDisk (untold counts)
untold_is_disk counts = record {
  reads_as_an_image = λ bytes told. tt;
  counts_now = λ t image le now. tt;
  only_now = λ image since. tt;
  since_earlier = λ t u image le since. tt;
  no_later_sync = λ k some few. omega arith;
}
