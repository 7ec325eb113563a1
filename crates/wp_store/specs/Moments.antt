-- The laws of a disk's images and moments, for a disk in memory.
use Rattle.std.specs.Prelude.{◌≡◌, ℕ, ◌≤◌, ◌<◌, List, [], ◌∷◌, length, Option, Some, refl}
use Rattle.std.proofs.Common.{inl, inr, arith, sym}
use Rattle.std.proofs.lemmas.Bool.Decides.{nat_tests}
use Rattle.wp_store.specs.Disk.{IsDisk}
use Rattle.wp_store.specs.InMemory.{DiskCall, DiskInMemory, Wrote, CutTo, Synced, IsImage, IsImageSince, bytes_after}
use Rattle.wp_store.specs.InMemory.{mem_told, sync_moment}

-- what a read gives is an image
pub read_is_image : (first : List ℕ) (done : List DiskCall) → IsImage first done (bytes_after first done)
read_is_image first [] = refl
read_is_image first (Wrote place n after ∷ done) = inl refl
read_is_image first (CutTo n after ∷ done) = inl refl
read_is_image first (Synced after ∷ done) = refl

pub told_is_image : (first : List ℕ) (done : List DiskCall) (bytes : List ℕ)
    → ◌≡◌ {A = Option (List ℕ)} (Some (bytes_after first done)) (Some bytes)
    → IsImage first done bytes
told_is_image first [] bytes told = sym (cc (told))
told_is_image first (Wrote place n after ∷ done) bytes told = inl (sym (cc (told)))
told_is_image first (CutTo n after ∷ done) bytes told = inl (sym (cc (told)))
told_is_image first (Synced after ∷ done) bytes told = sym (cc (told))

-- an image of now is one since each earlier moment
pub now_is_since : (first : List ℕ) (done : List DiskCall) (t : ℕ) (image : List ℕ) → t ≤ length done
    → IsImage first done image → IsImageSince first done t image
now_is_since first [] t image le now = (le, now)
now_is_since first (call ∷ done) t image le now = inl (omega arith, now)

-- there is no image of a later moment
none_later : (first : List ℕ) (done : List DiskCall) (t : ℕ) (image : List ℕ) → length done < t
    → IsImageSince first done t image → ⊥
none_later first [] t image late (le, is) = absurd (omega arith)
none_later first (call ∷ done) t image late (inl now) = absurd (omega (arith, now.0))
none_later first (call ∷ done) t image late (inr past) = none_later first done t image (omega arith) past

-- since this moment there is none but those of now
pub since_is_now : (first : List ℕ) (done : List DiskCall) (image : List ℕ)
    → IsImageSince first done (length done) image → IsImage first done image
since_is_now first [] image (le, is) = is
since_is_now first (call ∷ done) image (inl now) = now.1
since_is_now first (call ∷ done) image (inr past) = absurd (none_later first done _ image (omega arith) past)

-- what there was since a moment there was since each earlier one
pub since_is_earlier : (first : List ℕ) (done : List DiskCall) (t u : ℕ) (image : List ℕ) → t ≤ u
    → IsImageSince first done u image
    → IsImageSince first done t image
since_is_earlier first [] t u image le (at, is) = (omega arith, is)
since_is_earlier first (call ∷ done) t u image le (inl now) = let at = now.0 in inl (omega arith, now.1)
since_is_earlier first (call ∷ done) t u image le (inr past) = inr (since_is_earlier first done t u image le past)

-- no sync was done later
pub synced_by_now : (done : List DiskCall) (k : ℕ) → sync_moment done k ≤ length done
synced_by_now [] k = omega arith
synced_by_now (Wrote place n after ∷ done) k = let by = synced_by_now done k in omega arith
synced_by_now (CutTo n after ∷ done) k = let by = synced_by_now done k in omega arith
synced_by_now (Synced after ∷ done) k = let by = synced_by_now done k in
    grind (arith, nat_tests)

-- a disk in memory is a disk
pub mem_is_disk : (disk : DiskInMemory) → IsDisk (mem_told disk)
mem_is_disk disk = record {
  reads_as_an_image = λ bytes told. told_is_image disk.first disk.done bytes told;
  counts_now = λ t image le now. now_is_since disk.first disk.done t image le now;
  only_now = λ image since. since_is_now disk.first disk.done image since;
  since_earlier = λ t u image le since. since_is_earlier disk.first disk.done t u image le since;
  no_later_sync = λ k some few. synced_by_now disk.done k;
}
