-- A disk in memory, as clauses see it.
use Rattle.std.specs.Prelude.{◌≡◌, ◌⊎◌, ℕ, ◌+◌, ◌≤◌, Bool, false, ◌==◌, ◌||◌, nat_le, nat_lt, if◌then◌else◌, List, []}
use Rattle.std.specs.Prelude.{◌∷◌, length, take, map, reverse, vec_len, vec_capacity, Vec, Option, Some, None}
use Rattle.std.specs.declared.alloc.Global.{Global}
use Rattle.std.specs.List.{list_any}
use Rattle.wp_store.specs.Disk.{DiskTold, Torn, Cut, one_more, written_over}
use Rattle.wp_store.specs.declared.done.Done.{Done}
use Rattle.wp_store.specs.declared.done.Kind.{Kind}
use Rattle.wp_store.specs.declared.done.Kind.TheVariants as kind

-- a call that was done, with what a read gives after it: a write of so many bytes at a place, a cut to a length, or a
-- sync
pub data DiskCall : Type 0 where
  Wrote : ℕ → ℕ → List ℕ → DiskCall
  CutTo : ℕ → List ℕ → DiskCall
  Synced : List ℕ → DiskCall

abbrev pub call_of_kind : Kind → List ℕ → DiskCall
call_of_kind (kind.Wrote place n) after = Wrote place n after
call_of_kind (kind.CutTo n) after = CutTo n after
call_of_kind kind.Synced after = Synced after

abbrev pub call_of : Done → DiskCall
call_of done = call_of_kind done.kind done.after.value.items

-- the calls, the newest first
abbrev pub newest_first : List Done → List DiskCall
newest_first done = reverse (map call_of done)

-- which calls, counted from 1, are to fail: those with these numbers, those after so many, where that is given, and
-- those after the most; with the most bytes that the file may have, how many calls were made, and how many failed
pub record PlannedCalls : Type 0 where
  pub fails : List ℕ
  pub stop : Option ℕ
  pub most : ℕ
  pub size : ℕ
  pub made : ℕ
  pub faults : ℕ

-- so many calls were made that the next one is after the stop
abbrev pub is_stopped : Option ℕ → ℕ → Bool
is_stopped None made = false
is_stopped (Some most) made = nat_le most made

-- the next call is to fail
abbrev pub next_fails : PlannedCalls → Bool
next_fails calls = nat_le calls.most calls.made || is_stopped calls.stop calls.made || list_any
    (λ number. number == calls.made + 1) calls.fails

-- one more call, which failed or didn't
abbrev pub after_call : PlannedCalls → Bool → PlannedCalls
after_call calls failed = record calls {
  made = one_more calls.made;
  faults = if failed then one_more calls.faults else calls.faults;
}

-- a disk in memory: the bytes as it was made, the calls that were done, the newest first, and which calls fail
pub record DiskInMemory : Type 0 where
  pub first : List ℕ
  pub done : List DiskCall
  pub calls : PlannedCalls

-- what a read gives
abbrev pub bytes_after : List ℕ → List DiskCall → List ℕ
bytes_after first [] = first
bytes_after first (Wrote place n after ∷ done) = after
bytes_after first (CutTo n after ∷ done) = after
bytes_after first (Synced after ∷ done) = after

-- what a read gave after the last sync, or as the disk was made
abbrev pub kept_after : List ℕ → List DiskCall → List ℕ
kept_after first [] = first
kept_after first (Wrote place n after ∷ done) = kept_after first done
kept_after first (CutTo n after ∷ done) = kept_after first done
kept_after first (Synced after ∷ done) = after

-- The images. After a write or a cut they are what a read gives, and what each image from before it is where a crash
-- comes while it is done. After a sync there is one.
abbrev pub IsImage : List ℕ → List DiskCall → List ℕ → Type 0
IsImage first [] image = image ≡ first
IsImage first (Wrote place n after ∷ done) image
    = (image ≡ after) ⊎ ((from : List ℕ) × IsImage first done from × Torn place n from image)
IsImage first (CutTo n after ∷ done) image
    = (image ≡ after) ⊎ ((from : List ℕ) × IsImage first done from × Cut n from image)
IsImage first (Synced after ∷ done) image = image ≡ after

-- the images at some moment since t, where moments are counted by the calls that were done
abbrev pub IsImageSince : List ℕ → List DiskCall → ℕ → List ℕ → Type 0
IsImageSince first [] t image = (t ≤ 0) × (image ≡ first)
IsImageSince first (call ∷ done) t image
    = ((t ≤ length done + 1) × IsImage first (call ∷ done) image) ⊎ IsImageSince first done t image

-- how many syncs were done
abbrev pub sync_count : List DiskCall → ℕ
sync_count [] = 0
sync_count (Wrote place n after ∷ done) = sync_count done
sync_count (CutTo n after ∷ done) = sync_count done
sync_count (Synced after ∷ done) = sync_count done + 1

-- the moment of the sync of this number, from 1 on; 0 where there is none
abbrev pub sync_moment : List DiskCall → ℕ → ℕ
sync_moment [] k = 0
sync_moment (Wrote place n after ∷ done) k = sync_moment done k
sync_moment (CutTo n after ∷ done) k = sync_moment done k
sync_moment (Synced after ∷ done) k = if k == sync_count done + 1 then length done + 1 else sync_moment done k

-- a write of this piece at this place fails
abbrev pub write_fails : DiskInMemory → ℕ → List ℕ → Bool
write_fails disk place piece = next_fails disk.calls || nat_lt disk.calls.size (place + length piece)

-- the disk after a call that did this, or failed
abbrev pub after_done : DiskInMemory → Bool → DiskCall → DiskInMemory
after_done disk failed call =
    record disk { done = if failed then disk.done else call ∷ disk.done; calls = after_call disk.calls failed }

-- what a read gives of a disk
abbrev pub disk_bytes : DiskInMemory → List ℕ
disk_bytes disk = bytes_after disk.first disk.done

-- what such a disk tells: all
abbrev pub mem_told : DiskInMemory → DiskTold
mem_told disk = record {
  holds = Some (disk_bytes disk);
  images = IsImage disk.first disk.done;
  moment = length disk.done;
  images_since = IsImageSince disk.first disk.done;
  syncs = sync_count disk.done;
  sync_at = sync_moment disk.done;
  faults = disk.calls.faults;
  calls = disk.calls.made;
}

-- the disk after a write, a cut, a sync and a read
abbrev pub after_write : DiskInMemory → ℕ → List ℕ → DiskInMemory
after_write disk place piece = after_done disk (write_fails disk place piece)
    (Wrote place (length piece) (written_over place piece (disk_bytes disk)))

abbrev pub after_cut : DiskInMemory → ℕ → DiskInMemory
after_cut disk n = after_done disk (next_fails disk.calls) (CutTo n (take n (disk_bytes disk)))

abbrev pub after_sync : DiskInMemory → DiskInMemory
after_sync disk = after_done disk (next_fails disk.calls) (Synced (disk_bytes disk))

abbrev pub after_read : DiskInMemory → DiskInMemory
after_read disk = record disk { calls = after_call disk.calls (next_fails disk.calls) }

-- what a disk in memory keeps: the bytes that a read gives, those that a crash leaves at least, and room for the calls
-- and bytes that it may come to
pub record HasRoom (first bytes kept : Vec ℕ Global) (done : Vec Done Global) (calls : PlannedCalls) : Type 0 where
  pub bytes_are : bytes.items ≡ bytes_after first.items (newest_first done.items)
  pub kept_are : kept.items ≡ kept_after first.items (newest_first done.items)
  pub within : vec_len bytes ≤ calls.size
  pub kept_within : vec_len kept ≤ calls.size
  pub bytes_room : calls.size ≤ vec_capacity bytes
  pub kept_room : calls.size ≤ vec_capacity kept
  pub counted : vec_len done ≤ calls.made
  pub done_room : calls.most ≤ vec_capacity done
