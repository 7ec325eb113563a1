-- The file of a disk: what its calls change of what it tells, and what a disk over it tells.
use Rattle.std.specs.Prelude.{◌≡◌, ℕ, List, refl}
use Rattle.wp_store.specs.Disk.{DiskTold, IsDisk, OneCall, NoSync, one_more}
use Rattle.wp_store.specs.InMemory.{DiskInMemory, mem_told}
use Rattle.wp_store.specs.Untold.{Counts, untold}

-- a file tells its counts alone: each content is an image at each moment, and no sync is told
pub record TellsCountsAlone (file : DiskTold) : Type 0 where
  pub images : (image : List ℕ) → file.images image
  pub images_since : (t : ℕ) (image : List ℕ) → file.images_since t image
  pub moment : file.moment ≡ 0
  pub syncs : file.syncs ≡ 0
  pub sync_at : (k : ℕ) → file.sync_at k ≡ 0

-- What one call on a file that syncs nothing may change of what it tells, where it makes this step of a file: what a
-- call on a disk may, and each image from before is still one.
pub record FileCall (Step : List ℕ → List ℕ → Type 0) (old new : DiskTold) : Type 0 where
  pub call : OneCall Step old new
  pub unsynced : NoSync old new
  pub kept : (image : List ℕ) → old.images image → new.images image

-- what several calls on a file changed is what one call may change
abbrev pub AsOneCall : (List ℕ → List ℕ → Type 0) → DiskTold → DiskTold → Type 0
AsOneCall Step old new = FileCall Step old (record new { calls = one_more old.calls })

-- a disk over a file: the file, and how often the disk was called
pub record OverFile (F : Type 0) : Type 0 where
  pub file : F
  pub calls : ℕ

-- it tells what the file tells, but for the count of its own calls
abbrev pub over_told : {F : Type 0} → (F → DiskTold) → OverFile F → DiskTold
over_told told disk = record (told disk.file) { calls = disk.calls }

-- it is a disk, where its file is one
pub recounted : (file : DiskTold) (calls : ℕ) → IsDisk file → IsDisk (record file { calls = calls })
recounted file calls law = record {
  reads_as_an_image = law.reads_as_an_image;
  counts_now = law.counts_now;
  only_now = law.only_now;
  since_earlier = law.since_earlier;
  no_later_sync = law.no_later_sync;
}

-- a file that tells nothing else tells its counts alone
pub untold_alone : (counts : Counts) → TellsCountsAlone (untold counts)
untold_alone counts = record {
  images = λ image. tt;
  images_since = λ t image.
      tt;
  moment = refl;
  syncs = refl;
  sync_at = λ k. refl;
}

-- a file in memory: the disk in memory that has its bytes, and where the next read or write begins
pub record FileInMemory : Type 0 where
  pub disk : DiskInMemory
  pub position : ℕ

-- it tells what that disk tells, and so all
abbrev pub mem_file_told : FileInMemory → DiskTold
mem_file_told file = mem_told file.disk
