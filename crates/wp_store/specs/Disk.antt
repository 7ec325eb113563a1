-- What a disk tells, what the calls of a disk do to its file, and what a crash may leave of it. An image is a content
-- of the file that a crash leaves.
use Rattle.std.specs.Prelude.{◌≡◌, ◌⊎◌, ℕ, ◌+◌, ◌-◌, ◌^◌, ◌<◌, ◌≤◌, max, min, List, ◌++◌, length, take, drop, Option}
use Rattle.std.specs.Prelude.{Some, is_some}
use Rattle.wp_store.specs.Records.{most_store_bytes}

-- what a disk tells
pub record DiskTold : Type 1 where
  -- what a read gives, where that is told; where it isn't, nothing is told of images and syncs either
  pub holds : Option (List ℕ)
  -- the images that a crash may leave now
  pub images : List ℕ → Type 0
  -- the moment, as a number that never falls
  pub moment : ℕ
  -- the images that a crash might have left at some moment since that one, in a call or between two
  pub images_since : ℕ → List ℕ → Type 0
  -- how many syncs have succeeded, and at which moment each did, by its number from 1 on
  pub syncs : ℕ
  pub sync_at : ℕ → ℕ
  -- how often the disk has failed, and how often it was called
  pub faults : ℕ
  pub calls : ℕ

-- a claim on the bytes of a disk, where it tells them
abbrev pub WhereTold : Option (List ℕ) → (List ℕ → Type 0) → Type 0
WhereTold told P = (bytes : List ℕ) → told ≡ Some bytes → P bytes

-- a count has risen, or stands at the end of its type
abbrev pub Rose : ℕ → ℕ → Type 0
Rose old new = min (old + 1) (2 ^ 64 - 1) ≤ new

-- a file has more bytes than a disk reads
abbrev pub IsTooLong : List ℕ → Type 0
IsTooLong bytes = most_store_bytes < length bytes

-- a file with this piece at this place
abbrev pub written_over : ℕ → List ℕ → List ℕ → List ℕ
written_over place piece bytes = take place bytes ++ piece ++ drop (place + length piece) bytes

-- What a crash makes of a file while n bytes are written at a place: those bytes, and what stands past the old end, are
-- any bytes, and what stands past the old end may be missing. All other bytes stay.
pub record Torn (place n : ℕ) (old new : List ℕ) : Type 0 where
  pub before : take place new ≡ take place old
  pub after : drop (place + n) new ≡ drop (place + n) old
  pub no_shorter : length old ≤ length new
  pub no_longer : length new ≤ max (length old) (place + n)

-- What a crash makes of a file while it is cut: bytes from the cut on stay or are gone. All other bytes stay.
pub record Cut (n : ℕ) (old new : List ℕ) : Type 0 where
  pub no_shorter : min n (length old) ≤ length new
  pub front : new ≡ take (length new) old

-- the file is as it was
abbrev pub Stays : List ℕ → List ℕ → Type 0
Stays old new = new ≡ old

-- the file is the only image
abbrev pub Only : List ℕ → (List ℕ → Type 0) → Type 0
Only file images = (image : List ℕ) → images image → image ≡ file

-- one more, unless a count stands at the end of its type
abbrev pub one_more : ℕ → ℕ
one_more n = max n (min (n + 1) (2 ^ 64 - 1))

-- no sync succeeded
abbrev pub NoSync : DiskTold → DiskTold → Type 0
NoSync old new = new.syncs ≡ old.syncs

-- one sync succeeded, as the call ended
pub record OneSync (old new : DiskTold) : Type 0 where
  pub counted : new.syncs ≡ old.syncs + 1
  pub now : new.sync_at new.syncs ≡ new.moment
  pub later : old.moment < new.moment

-- What one call on a disk may change of what it tells, where it makes this step of a file. Whether its bytes are told
-- stays. Each image is one from before the call after the step. Time goes on: an image at some moment since t is one of
-- those that there might have been before, or one of those of now. The syncs that had succeeded stay as they are. No
-- count falls, and it is one call more.
pub record OneCall (Step : List ℕ → List ℕ → Type 0) (old new : DiskTold) : Type 0 where
  pub told : is_some new.holds ≡ is_some old.holds
  pub images : (image : List ℕ) → new.images image → (from : List ℕ) × old.images from × Step from image
  pub later : old.moment ≤ new.moment
  pub nothing_else : (t : ℕ) (image : List ℕ) → t ≤ old.moment → new.images_since t image
      → old.images_since t image ⊎ new.images image
  pub keeps : (t : ℕ) (image : List ℕ) → t ≤ old.moment → old.images_since t image → new.images_since t image
  pub syncs : NoSync old new ⊎ OneSync old new
  pub sync_at : (k : ℕ) → k ≤ old.syncs → new.sync_at k ≡ old.sync_at k
  pub faults : old.faults ≤ new.faults
  pub calls : new.calls ≡ one_more old.calls

-- What several calls may change of what a disk tells, of which so many at most are made, and so many syncs at most
-- succeed.
pub record GoesOn (calls syncs : ℕ) (old new : DiskTold) : Type 0 where
  pub told : is_some new.holds ≡ is_some old.holds
  pub later : old.moment ≤ new.moment
  pub least_syncs : old.syncs ≤ new.syncs
  pub most_syncs : new.syncs ≤ old.syncs + syncs
  pub sync_at : (k : ℕ) → k ≤ old.syncs → new.sync_at k ≡ old.sync_at k
  pub syncs_later : (k : ℕ) → old.syncs < k → k ≤ new.syncs → old.moment < new.sync_at k
  pub syncs_by_now : (k : ℕ) → old.syncs < k → k ≤ new.syncs → new.sync_at k ≤ new.moment
  pub least_calls : old.calls ≤ new.calls
  pub most_calls : new.calls ≤ old.calls + calls
  pub faults : old.faults ≤ new.faults

-- what calls have left of a disk, six at most, of which one failed
pub record FailedSince (old new : DiskTold) : Type 0 where
  pub course : GoesOn 6 3 old new
  pub failed : Rose old.faults new.faults

-- so many syncs have succeeded, the last as the calls ended
pub record EndsSynced (syncs : ℕ) (old new : DiskTold) : Type 0 where
  pub counted : new.syncs ≡ old.syncs + syncs
  pub now : new.sync_at new.syncs ≡ new.moment

-- every image at a moment since the old disk has P
pub record LeavesOnly (old new : DiskTold) (P : List ℕ → Type 0) : Type 0 where
  pub later : old.moment ≤ new.moment
  pub each : (image : List ℕ) → new.images_since old.moment image → P image
  -- for calls that began earlier
  pub before : (t : ℕ) (image : List ℕ) → t ≤ old.moment → new.images_since t image → old.images_since t image ⊎ P image

-- every image at a moment since the sync of this number has P
abbrev pub SinceSync : DiskTold → ℕ → (List ℕ → Type 0) → Type 0
SinceSync disk k P = (image : List ℕ) → disk.images_since (disk.sync_at k) image → P image

-- every image at a moment since a sync that succeeded in these calls has P
abbrev pub SinceSyncs : DiskTold → DiskTold → (List ℕ → Type 0) → Type 0
SinceSyncs old new P = (k : ℕ) → old.syncs < k → k ≤ new.syncs → SinceSync new k P

-- What is so of each disk, at every moment.
pub record IsDisk (disk : DiskTold) : Type 0 where
  -- the disk as it reads is one of its images
  pub reads_as_an_image : (bytes : List ℕ) → disk.holds ≡ Some bytes → disk.images bytes
  -- this moment is one of those since an earlier one
  pub counts_now : (t : ℕ) (image : List ℕ) → t ≤ disk.moment → disk.images image → disk.images_since t image
  -- since this moment there is no other
  pub only_now : (image : List ℕ) → disk.images_since disk.moment image → disk.images image
  -- what there was since a moment there was since each earlier one
  pub since_earlier : (t u : ℕ) (image : List ℕ) → t ≤ u → disk.images_since u image → disk.images_since t image
  -- no sync succeeded at a later moment than this one
  pub no_later_sync : (k : ℕ) → 1 ≤ k → k ≤ disk.syncs → disk.sync_at k ≤ disk.moment
