-- The calls of a file in memory, by those of the disk that has its bytes.
use Rattle.std.proofs.Common.{◌≡◌, inr, refl, sym, subst, ℕ, ◌≤◌, Bool, true, false, List, ◌∷◌, length, take}
use Rattle.wp_store.specs.Disk.{DiskTold, OneCall, Stays, Torn, Cut, written_over}
use Rattle.wp_store.specs.DiskFile.{FileCall}
use Rattle.wp_store.specs.InMemory.{DiskCall, DiskInMemory, Wrote, CutTo, IsImage, after_cut, after_done, after_read, after_write, disk_bytes, mem_told}
use Rattle.wp_store.specs.InMemory.{next_fails, write_fails}
use Rattle.wp_store.proofs.Overwriting.{torn_wider}
use Rattle.wp_store.proofs.Tearing.{cut_call, cut_not, read_call, torn_not, write_call}

-- a read or a seek
pub read_file_call : (old new : DiskInMemory) → new ≡ after_read old → FileCall Stays (mem_told old) (mem_told new)
read_file_call old new is = subst (λ (disk : DiskInMemory). FileCall Stays (mem_told old) (mem_told disk)) (sym is)
    (record { call = read_call old Stays (λ image. refl) (next_fails old.calls); unsynced = refl; kept = λ image now. now })

-- a call that fails changes no image, and one that is done keeps each that was
kept_after_done : (disk : DiskInMemory) (call : DiskCall)
    → ((image : List ℕ) → IsImage disk.first disk.done image → IsImage disk.first (call ∷ disk.done) image)
    → (failed : Bool) (image : List ℕ) → (mem_told disk).images image → (mem_told (after_done disk failed call)).images image
kept_after_done disk call kept true image now = now
kept_after_done disk call kept false image now = kept image now

unsynced_after_done : (disk : DiskInMemory) (call : DiskCall) → (mem_told (after_done disk false call)).syncs ≡ (mem_told disk).syncs
    → (failed : Bool) → (mem_told (after_done disk failed call)).syncs ≡ (mem_told disk).syncs
unsynced_after_done disk call none true = refl
unsynced_after_done disk call none false = none

-- a wider range may be torn than the one that is written
wider_call : (place m n : ℕ) → m ≤ n → (old new : DiskTold) → OneCall (Torn place m) old new → OneCall (Torn place n) old new
wider_call place m n le old new call = record {
  told = call.told;
  images = λ image now. let from = call.images image now in (from.0, from.1, torn_wider place m n le from.0 image from.2);
  later = call.later;
  nothing_else = call.nothing_else;
  keeps = call.keeps;
  syncs = call.syncs;
  sync_at = call.sync_at;
  faults = call.faults;
  calls = call.calls;
}

-- a write of a part of a piece of so many bytes
pub write_file_call : (old new : DiskInMemory) (place n : ℕ) (part : List ℕ) → length part ≤ n → place ≤ length (disk_bytes old)
    → new ≡ after_write old place part → FileCall (Torn place n) (mem_told old) (mem_told new)
write_file_call old new place n part few within is =
    let call = Wrote place (length part) (written_over place part (disk_bytes old)) in
    subst (λ (disk : DiskInMemory). FileCall (Torn place n) (mem_told old) (mem_told disk)) (sym is) (record {
      call = wider_call place (length part) n few _ _ (write_call old place part within);
      unsynced = unsynced_after_done old call refl (write_fails old place part);
      kept = kept_after_done old call (λ image now. inr (image, now, torn_not place (length part) image)) (write_fails old place part);
    })

-- a cut
pub cut_file_call : (old new : DiskInMemory) (size : ℕ) → new ≡ after_cut old size → FileCall (Cut size) (mem_told old) (mem_told new)
cut_file_call old new size is =
    let call = CutTo size (take size (disk_bytes old)) in
    subst (λ (disk : DiskInMemory). FileCall (Cut size) (mem_told old) (mem_told disk)) (sym is) (record {
      call = cut_call old size;
      unsynced = unsynced_after_done old call refl (next_fails old.calls);
      kept = kept_after_done old call (λ image now. inr (image, now, cut_not size image)) (next_fails old.calls);
    })
