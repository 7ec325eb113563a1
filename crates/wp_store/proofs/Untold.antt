-- The calls of a file that tells its counts alone.
use Rattle.std.proofs.Common.{◌≡◌, ℕ, ◌≤◌, List, arith, inl, refl}
use Rattle.wp_store.specs.Disk.{one_more}
use Rattle.wp_store.specs.DiskFile.{FileCall}
use Rattle.wp_store.specs.Untold.{Counts, untold}

-- where none of its images is told, a call may make any step of them
pub untold_call : (Step : List ℕ → List ℕ → Type 0) (old new : Counts) → ((image : List ℕ) → Step image image) → old.faults ≤ new.faults
    → new.calls ≡ one_more old.calls → FileCall Step (untold old) (untold new)
untold_call Step old new not rises called = record {
  call = record {
    told = refl;
    images = λ image now. (image, tt, not image);
    later = omega arith;
    nothing_else = λ t image le since. inl tt;
    keeps = λ t image le since. tt;
    syncs = inl refl;
    sync_at = λ k le. refl;
    faults = rises;
    calls = called;
  };
  unsynced = refl;
  kept = λ image now. tt;
}
