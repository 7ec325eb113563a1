-- Several calls on the file of a disk that together are one call on the disk.
use Rattle.std.proofs.Common.{◌≡◌, ◌∙◌, inl, inr, ⊎_elim, refl, sym, subst, ap, ℕ, ◌+◌, ◌≤◌, List, Option, Some, None, arith}
use Rattle.std.specs.Prelude.{is_some, OnOk, OnErr, IsErrOf, Result, Ok, Err}
use Rattle.wp_store.specs.Disk.{DiskTold, OneCall, Stays, Torn, WhereTold, one_more}
use Rattle.wp_store.proofs.Overwriting.{torn_rest, torn_stays, torn_twice}
use Rattle.wp_store.proofs.Tearing.{torn_not}
use Rattle.wp_store.specs.DiskFile.{FileCall, AsOneCall, OverFile, TellsCountsAlone, over_told}
use Rattle.wp_store.specs.declared.disk.DiskFault.{DiskFault}
use Rattle.wp_store.specs.declared.disk.DiskFault.TheVariants.{Failed, TooLong, Memory}

module _ (Step : List ℕ → List ℕ → Type 0) (not : (image : List ℕ) → Step image image) where
  -- before the first call
  pub begun : (file : DiskTold) → AsOneCall Step file file
  begun file = record {
    call = record {
      told = refl;
      images = λ image now. (image, now, not image);
      later = omega arith;
      nothing_else = λ t image le since. inl since;
      keeps = λ t image le since. since;
      syncs = inl refl;
      sync_at = λ k le. refl;
      faults = omega arith;
      calls = refl;
    };
    unsynced = refl;
    kept = λ image now. now;
  }

  -- one call more, which does a part of the step
  pub goes_on : (both : (one two three : List ℕ) → Step one two → Step two three → Step one three)
      (Part : List ℕ → List ℕ → Type 0) (part : (one two : List ℕ) → Part one two → Step one two)
      (old mid new : DiskTold) → AsOneCall Step old mid → FileCall Part mid new → AsOneCall Step old new
  goes_on both Part part old mid new first next = record {
    call = record {
      told = next.call.told ∙ first.call.told;
      images = λ image now.
          let there = next.call.images image now in
          let here = first.call.images there.0 there.1 in
          (here.0, here.1, both here.0 there.0 image here.2 (part there.0 image there.2));
      later = omega (arith, first.call.later, next.call.later);
      nothing_else = λ t image le since. ⊎_elim
          (λ past. ⊎_elim (λ old_one. inl old_one) (λ now. inr (next.kept image now)) (first.call.nothing_else t image le past))
          (λ now. inr now)
          (next.call.nothing_else t image (omega (arith, le, first.call.later)) since);
      keeps = λ t image le since. next.call.keeps t image (omega (arith, le, first.call.later)) (first.call.keeps t image le since);
      syncs = inl (next.unsynced ∙ first.unsynced);
      sync_at = λ k le. next.call.sync_at k (omega (arith, le, first.unsynced)) ∙ first.call.sync_at k le;
      faults = omega (arith, first.call.faults, next.call.faults);
      calls = refl;
    };
    unsynced = next.unsynced ∙ first.unsynced;
    kept = λ image now. next.kept image (first.kept image now);
  }

-- to go somewhere changes no image
pub sought : (place n : ℕ) (old mid new : DiskTold) → AsOneCall (Torn place n) old mid → FileCall Stays mid new → AsOneCall (Torn place n) old new
sought place n = goes_on (Torn place n) (torn_not place n) (torn_twice place n) Stays (torn_stays place n)

-- one write more of a piece, where so many bytes of it are written
pub written_more : (place n done next m : ℕ) → done + m ≡ n → next ≡ place + done → (old mid new : DiskTold) → AsOneCall (Torn place n) old mid
    → FileCall (Torn next m) mid new → AsOneCall (Torn place n) old new
written_more place n done next m is at =
    goes_on (Torn place n) (torn_not place n) (torn_twice place n) (Torn next m)
    (λ one two torn. torn_rest place n done m is one two (subst (λ (k : ℕ). Torn k m one two) at torn))

-- one read more
pub read_more : (old mid new : DiskTold) → AsOneCall Stays old mid → FileCall Stays mid new → AsOneCall Stays old new
read_more = goes_on Stays (λ image. refl) (λ one two three first second. second ∙ first) Stays (λ one two same. same)

-- a call on the file as one on the disk over it
pub recounted_call : (Step : List ℕ → List ℕ → Type 0) (old new : DiskTold) (calls : ℕ) → OneCall Step old new
    → OneCall Step (record old { calls = calls }) (record new { calls = one_more calls })
recounted_call Step old new calls call = record {
  told = call.told;
  images = call.images;
  later = call.later;
  nothing_else = call.nothing_else;
  keeps = call.keeps;
  syncs = ⊎_elim (λ none. inl none) (λ one. inr (record { counted = one.counted; now = one.now; later = one.later })) call.syncs;
  sync_at = call.sync_at;
  faults = call.faults;
  calls = refl;
}

-- a file that told nothing goes on to tell nothing
untold_after : (was now : Option (List ℕ)) → was ≡ None → is_some now ≡ is_some was → now ≡ None
untold_after None None is same = refl
untold_after None (Some bytes) is same = absurd (cc (same))
untold_after (Some bytes) now is same = absurd (cc (is))

-- what calls changed that are one where the bytes are told, is what one call on the disk may change, told or not
pub one_on_disk : (Step : List ℕ → List ℕ → Type 0) (not : (image : List ℕ) → Step image image) (old new : DiskTold) (calls : ℕ)
    → (old.holds ≡ None → TellsCountsAlone old) → (new.holds ≡ None → TellsCountsAlone new) → is_some new.holds ≡ is_some old.holds
    → old.faults ≤ new.faults → WhereTold old.holds (λ _. AsOneCall Step old new)
    → OneCall Step (record old { calls = calls }) (record new { calls = one_more calls })
one_on_disk Step not old new calls old_alone new_alone told faults went = by_told old.holds refl
  where
    by_told : (holds : Option (List ℕ)) → old.holds ≡ holds → OneCall Step (record old { calls = calls }) (record new { calls = one_more calls })
    by_told (Some bytes) is = recounted_call Step old (record new { calls = one_more old.calls }) calls (went bytes is).call
    by_told None is =
        let was = old_alone is in
        let now = new_alone (untold_after old.holds new.holds is told) in
        record {
          told = told;
          images = λ image has. (image, was.images image, not image);
          later = omega (arith, was.moment, now.moment);
          nothing_else = λ t image le since. inl (was.images_since t image);
          keeps = λ t image le since. now.images_since t image;
          syncs = inl (now.syncs ∙ sym was.syncs);
          sync_at = λ k le. now.sync_at k ∙ sym (was.sync_at k);
          faults = faults;
          calls = refl;
        }

-- and they sync nothing
pub none_synced : (Step : List ℕ → List ℕ → Type 0) (old new : DiskTold)
    → (old.holds ≡ None → TellsCountsAlone old) → (new.holds ≡ None → TellsCountsAlone new) → is_some new.holds ≡ is_some old.holds
    → WhereTold old.holds (λ _. AsOneCall Step old new) → new.syncs ≡ old.syncs
none_synced Step old new old_alone new_alone told went = by_told old.holds refl
  where
    by_told : (holds : Option (List ℕ)) → old.holds ≡ holds → new.syncs ≡ old.syncs
    by_told (Some bytes) is = (went bytes is).unsynced
    by_told None is = (new_alone (untold_after old.holds new.holds is told)).syncs ∙ sym (old_alone is).syncs

-- a disk over a file that was called once more, and whose file went on so
pub told_call : {F : Type 0} (told : F → DiskTold) (Step : List ℕ → List ℕ → Type 0) (old : OverFile F) (file new : F) (calls : ℕ)
    → ◌≡◌ {A = OverFile F} (record { file = file; calls = calls }) (record { file = old.file; calls = one_more old.calls })
    → OneCall Step (record (told file) { calls = old.calls }) (record (told new) { calls = one_more old.calls })
    → OneCall Step (over_told told old) (over_told told (record { file = new; calls = calls }))
told_call {F} told Step old file new calls is call =
    let counted : calls ≡ one_more old.calls = ap (λ (disk : OverFile F). disk.calls) is in
    let same : file ≡ old.file = ap (λ (disk : OverFile F). disk.file) is in
    subst (λ (n : ℕ). OneCall Step (over_told told old) (record (told new) { calls = n })) (sym counted)
    (subst (λ (f : F). OneCall Step (record (told f) { calls = old.calls }) (record (told new) { calls = one_more old.calls })) same call)

-- a count that rose or stood didn't fall
pub none_fell : {T E : Type 0} (result : Result T E) (old new : ℕ) → OnErr result (new ≡ one_more old) → OnOk result (new ≡ old) → old ≤ new
none_fell (Ok value) old new rose stood = omega (arith, stood)
none_fell (Err fault) old new rose stood = omega (arith, rose)

pub none_fell_in_read : {T : Type 0} (result : Result T DiskFault) (old new : ℕ) → (IsErrOf result Failed → new ≡ one_more old)
    → ((IsErrOf result Failed → ⊥) → new ≡ old) → old ≤ new
none_fell_in_read (Ok value) old new rose stood = let same = stood (λ fails. absurd (cc (fails))) in omega (arith, same)
none_fell_in_read (Err Failed) old new rose stood = let more = rose refl in omega (arith, more)
none_fell_in_read (Err TooLong) old new rose stood = let same = stood (λ fails. absurd (cc (fails))) in omega (arith, same)
none_fell_in_read (Err Memory) old new rose stood = let same = stood (λ fails. absurd (cc (fails))) in omega (arith, same)
