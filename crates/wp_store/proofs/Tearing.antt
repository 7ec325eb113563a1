-- What a crash makes of a file while it is written or cut, and the images of a disk in memory.
use Rattle.std.proofs.Common.{◌≡◌, ◌⊎◌, inl, inr, ⊎_elim, refl, sym, ◌∙◌, ap, subst, ℕ, ◌+◌, ◌-◌, ◌≤◌, Bool, true, false, List, [], ◌∷◌, ◌++◌, length, take}
use Rattle.std.proofs.Common.{drop, arith, length-append, length-take, length-drop}
use Rattle.std.proofs.lemmas.List.{take_at, drop_at, take_all, append_assoc, take_min}
use Rattle.std.proofs.lemmas.Bool.Decides.{nat_tests}
use Rattle.wp_store.specs.Disk.{Torn, Cut, Stays, OneCall, written_over}
use Rattle.wp_store.specs.InMemory.{DiskCall, Wrote, CutTo, Synced, IsImage, kept_after, DiskInMemory, disk_bytes, write_fails, next_fails, after_call}
use Rattle.wp_store.specs.InMemory.{after_cut, after_done, after_sync, after_write, mem_told, sync_count, sync_moment}
use Rattle.wp_store.specs.Moments.{read_is_image}

-- nothing done yet
pub torn_not : (place n : ℕ) (c : List ℕ) → Torn place n c c
torn_not place n c = record { before = refl; after = refl; no_shorter = omega arith; no_longer = omega arith }

pub cut_not : (n : ℕ) (c : List ℕ) → Cut n c c
cut_not n c = record { no_shorter = omega arith; front = sym (take_all (length c) c (omega arith)) }

-- all done
pub torn_done : (place : ℕ) (piece bytes : List ℕ) → place ≤ length bytes → Torn place (length piece) bytes (written_over place piece bytes)
torn_done place piece bytes within =
    let front : length (take place bytes) ≡ place = omega (arith, length-take place bytes) in
    let both : length (take place bytes ++ piece) ≡ place + length piece = omega (arith, length-append (take place bytes) piece, front) in
    let split : written_over place piece bytes ≡ take place bytes ++ (piece ++ drop (place + length piece) bytes) = append_assoc (take place bytes) piece _ in
    let size : length (written_over place piece bytes) ≡ place + length piece + (length bytes - (place + length piece)) =
    omega (arith, length-append (take place bytes ++ piece) (drop (place + length piece) bytes), both, length-drop (place + length piece) bytes) in
    record {
      before = ap (λ (l : List ℕ). take place l) split ∙ take_at (take place bytes) _ place front;
      after = drop_at (take place bytes ++ piece) _ (place + length piece) both;
      no_shorter = omega arith;
      no_longer = omega arith;
    }

pub cut_done : (n : ℕ) (bytes : List ℕ) → Cut n bytes (take n bytes)
cut_done n bytes = record {
  no_shorter = omega (arith, length-take n bytes);
  front = sym (take_min n bytes) ∙ ap (λ (k : ℕ). take k bytes) (sym (length-take n bytes));
}

-- what stood after the last sync is an image
pub kept_is_image : (first : List ℕ) (done : List DiskCall) → IsImage first done (kept_after first done)
kept_is_image first [] = refl
kept_is_image first (Wrote place n after ∷ done) = inr (kept_after first done, kept_is_image first done, torn_not place n _)
kept_is_image first (CutTo n after ∷ done) = inr (kept_after first done, kept_is_image first done, cut_not n _)
kept_is_image first (Synced after ∷ done) = refl

-- a call that fails, or does this to the file
module _ (disk : DiskInMemory) (Step : List ℕ → List ℕ → Type 0) (not : (image : List ℕ) → Step image image) where
  failed_call : OneCall Step (mem_told disk) (mem_told (record disk { calls = after_call disk.calls true }))
  failed_call = record {
    told = refl;
    images = λ image now. (image, now, not image);
    later = omega arith;
    nothing_else = λ t image le since. inl since;
    keeps = λ t image le since. since;
    syncs = inl refl;
    sync_at = λ k le. refl;
    faults = omega arith;
    calls = refl;
  }

  module _ (call : DiskCall)
      (images : (image : List ℕ) → IsImage disk.first (call ∷ disk.done) image → (from : List ℕ) × IsImage disk.first disk.done from × Step from image)
      (syncs : (sync_count (call ∷ disk.done) ≡ sync_count disk.done)
      ⊎ ((sync_count (call ∷ disk.done) ≡ sync_count disk.done + 1) × (sync_moment (call ∷ disk.done) (sync_count (call ∷ disk.done)) ≡ length disk.done + 1)))
      (sync_at : (k : ℕ) → k ≤ sync_count disk.done → sync_moment (call ∷ disk.done) k ≡ sync_moment disk.done k) where
    pub done_call : (failed : Bool) → OneCall Step (mem_told disk) (mem_told (after_done disk failed call))
    done_call true = failed_call
    done_call false = record {
      told = refl;
      images = images;
      later = omega arith;
      nothing_else = λ t image le since. ⊎_elim (λ now. inr now.1) (λ past. inl past) since;
      keeps = λ t image le since. inr since;
      syncs = ⊎_elim (λ none. inl none) (λ one. inr (record { counted = one.0; now = one.1 ∙ omega arith; later = omega arith })) syncs;
      sync_at = sync_at;
      faults = omega arith;
      calls = refl;
    }

  pub read_call : (failed : Bool) → OneCall Step (mem_told disk) (mem_told (record disk { calls = after_call disk.calls failed }))
  read_call true = failed_call
  read_call false = record {
    told = refl;
    images = λ image now. (image, now, not image);
    later = omega arith;
    nothing_else = λ t image le since. inl since;
    keeps = λ t image le since. since;
    syncs = inl refl;
    sync_at = λ k le. refl;
    faults = omega arith;
    calls = refl;
  }

pub write_call : (disk : DiskInMemory) (place : ℕ) (piece : List ℕ) → place ≤ length (disk_bytes disk)
    → OneCall (Torn place (length piece)) (mem_told disk) (mem_told (after_write disk place piece))
write_call disk place piece within =
    done_call disk (Torn place (length piece)) (torn_not place (length piece)) (Wrote place (length piece) (written_over place piece (disk_bytes disk)))
    torn (inl refl) (λ k le. refl) (write_fails disk place piece)
  where
    torn : (image : List ℕ) → IsImage disk.first (Wrote place (length piece) (written_over place piece (disk_bytes disk)) ∷ disk.done) image
        → (from : List ℕ) × IsImage disk.first disk.done from × Torn place (length piece) from image
    torn image (inl is) = (
      disk_bytes disk,
      read_is_image disk.first disk.done,
      subst (λ (c : List ℕ). Torn place (length piece) (disk_bytes disk) c) (sym is)
          (torn_done place piece (disk_bytes disk) within),
    )
    torn image (inr from) = from

pub cut_call : (disk : DiskInMemory) (n : ℕ) → OneCall (Cut n) (mem_told disk) (mem_told (after_cut disk n))
cut_call disk n =
    done_call disk (Cut n) (cut_not n) (CutTo n (take n (disk_bytes disk))) cut (inl refl) (λ k le. refl) (next_fails disk.calls)
  where
    cut : (image : List ℕ) → IsImage disk.first (CutTo n (take n (disk_bytes disk)) ∷ disk.done) image
        → (from : List ℕ) × IsImage disk.first disk.done from × Cut n from image
    cut image (inl is) = (
      disk_bytes disk,
      read_is_image disk.first disk.done,
      subst (λ (c : List ℕ). Cut n (disk_bytes disk) c) (sym is)
          (cut_done n (disk_bytes disk)),
    )
    cut image (inr from) = from

pub sync_call : (disk : DiskInMemory) → OneCall Stays (mem_told disk) (mem_told (after_sync disk))
sync_call disk =
    done_call disk Stays (λ image. refl) (Synced (disk_bytes disk)) (λ image is. (disk_bytes disk, read_is_image disk.first disk.done, is))
    (inr (refl, at_count)) earlier (next_fails disk.calls)
  where
    at_count : sync_moment (Synced (disk_bytes disk) ∷ disk.done) (sync_count disk.done + 1) ≡ length disk.done + 1
    at_count = grind (arith, nat_tests)

    earlier : (k : ℕ) → k ≤ sync_count disk.done → sync_moment (Synced (disk_bytes disk) ∷ disk.done) k ≡ sync_moment disk.done k
    earlier k le = grind (arith, nat_tests)
