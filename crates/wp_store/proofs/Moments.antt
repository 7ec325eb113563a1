-- How calls of a disk go on.
use Rattle.std.proofs.Common.{◌≡◌, ◌∙◌, inl, inr, ⊎_elim, ℕ, ◌+◌, ◌≤◌, ◌<◌, List, arith, refl, sym, subst}
use Rattle.std.proofs.lemmas.Bool.{cases_lt}
use Rattle.wp_store.specs.Disk.{DiskTold, IsDisk, OneCall, NoSync, OneSync, GoesOn, EndsSynced, Stays, Only, LeavesOnly, SinceSyncs}

-- before the first call
pub started : (old : DiskTold) (P : List ℕ → Type 0) → ((image : List ℕ) → old.images_since old.moment image → P image) → LeavesOnly old old P
started old P here = record { later = omega arith; each = here; before = λ t image le since. inl since }

-- one call more, whose images have P
pub goes_on : (Step : List ℕ → List ℕ → Type 0) (old mid new : DiskTold) (P : List ℕ → Type 0) → LeavesOnly old mid P → OneCall Step mid new
    → ((image : List ℕ) → new.images image → P image) → LeavesOnly old new P
goes_on Step old mid new P so_far call here = record {
  later = omega (arith, so_far.later, call.later);
  each = λ image since. ⊎_elim (so_far.each image) (here image) (call.nothing_else old.moment image so_far.later since);
  before = λ t image le since. ⊎_elim (so_far.before t image le) (λ now. inr (here image now))
      (call.nothing_else t image (omega (arith, le, so_far.later)) since);
}

-- calls after which others come
pub joined : (old mid new : DiskTold) (P : List ℕ → Type 0) → LeavesOnly old mid P → LeavesOnly mid new P → LeavesOnly old new P
joined old mid new P first second = record {
  later = omega (arith, first.later, second.later);
  each = λ image since. ⊎_elim (first.each image) (λ has. has) (second.before old.moment image first.later since);
  before = λ t image le since. ⊎_elim (first.before t image le) (λ has. inr has) (second.before t image (omega (arith, le, first.later)) since);
}

-- what each image has implies something else
pub weakened : (old new : DiskTold) (P Q : List ℕ → Type 0) → LeavesOnly old new P → ((image : List ℕ) → P image → Q image) → LeavesOnly old new Q
weakened old new P Q leaves implies = record {
  later = leaves.later;
  each = λ image since. implies image (leaves.each image since);
  before = λ t image le since. ⊎_elim (λ past. inl past) (λ has. inr (implies image has)) (leaves.before t image le since);
}

-- the course of no call
pub no_course : (disk : DiskTold) → GoesOn 0 0 disk disk
no_course disk = record {
  told = refl;
  later = omega arith;
  least_syncs = omega arith;
  most_syncs = omega arith;
  sync_at = λ k le. refl;
  syncs_later = λ k more few. absurd (omega (arith, more, few));
  syncs_by_now = λ k more few. absurd (omega (arith, more, few));
  least_calls = omega arith;
  most_calls = omega arith;
  faults = omega arith;
}

-- of one that syncs nothing
pub unsynced_course : (Step : List ℕ → List ℕ → Type 0) (old new : DiskTold) → OneCall Step old new → NoSync old new → GoesOn 1 0 old new
unsynced_course Step old new call none = record {
  told = call.told;
  later = call.later;
  least_syncs = omega (arith, none);
  most_syncs = omega (arith, none);
  sync_at = call.sync_at;
  syncs_later = λ k more few. absurd (omega (arith, more, few, none));
  syncs_by_now = λ k more few. absurd (omega (arith, more, few, none));
  least_calls = omega (arith, call.calls);
  most_calls = omega (arith, call.calls);
  faults = call.faults;
}

-- of one that syncs
pub synced_course : (Step : List ℕ → List ℕ → Type 0) (old new : DiskTold) → OneCall Step old new → GoesOn 1 1 old new
synced_course Step old new call = record {
  told = call.told;
  later = call.later;
  least_syncs = ⊎_elim (λ none. omega (arith, none)) (λ one. omega (arith, one.counted)) call.syncs;
  most_syncs = ⊎_elim (λ none. omega (arith, none)) (λ one. omega (arith, one.counted)) call.syncs;
  sync_at = call.sync_at;
  syncs_later = λ k more few. ⊎_elim (λ none. absurd (omega (arith, more, few, none)))
      (λ one. let at = at_last k more few one in omega (arith, at, one.later)) call.syncs;
  syncs_by_now = λ k more few. ⊎_elim (λ none. absurd (omega (arith, more, few, none)))
      (λ one. let at = at_last k more few one in omega (arith, at)) call.syncs;
  least_calls = omega (arith, call.calls);
  most_calls = omega (arith, call.calls);
  faults = call.faults;
}
  where
    at_last : (k : ℕ) → old.syncs < k → k ≤ new.syncs → OneSync old new → new.sync_at k ≡ new.moment
    at_last k more few one =
        let is : new.syncs ≡ k = omega (arith, more, few, one.counted) in
        subst (λ (n : ℕ). new.sync_at n ≡ new.moment) is one.now

-- of calls after which others come
pub course_joined : (n m k j : ℕ) (old mid new : DiskTold) → GoesOn n k old mid → GoesOn m j mid new → GoesOn (n + m) (k + j) old new
course_joined n m k j old mid new first second = record {
  told = second.told ∙ first.told;
  later = omega (arith, first.later, second.later);
  least_syncs = omega (arith, first.least_syncs, second.least_syncs);
  most_syncs = omega (arith, first.most_syncs, second.most_syncs);
  sync_at = λ i le. second.sync_at i (omega (arith, le, first.least_syncs)) ∙ first.sync_at i le;
  syncs_later = λ i more few. ⊎_elim
      (λ after. let at = second.syncs_later i after few in omega (arith, at, first.later))
      (λ by. let at = first.syncs_later i more by in let same = second.sync_at i by in omega (arith, at, same))
      (cases_lt mid.syncs i);
  syncs_by_now = λ i more few. ⊎_elim
      (λ after. second.syncs_by_now i after few)
      (λ by. let at = first.syncs_by_now i more by in let same = second.sync_at i by in omega (arith, at, same, second.later))
      (cases_lt mid.syncs i);
  least_calls = omega (arith, first.least_calls, second.least_calls);
  most_calls = omega (arith, first.most_calls, second.most_calls);
  faults = omega (arith, first.faults, second.faults);
}

-- of calls that are no more than so many
pub course_within : (n m k j : ℕ) (old new : DiskTold) → n ≤ m → k ≤ j → GoesOn n k old new → GoesOn m j old new
course_within n m k j old new few few' course = record {
  told = course.told;
  later = course.later;
  least_syncs = course.least_syncs;
  most_syncs = omega (arith, course.most_syncs, few');
  sync_at = course.sync_at;
  syncs_later = course.syncs_later;
  syncs_by_now = course.syncs_by_now;
  least_calls = course.least_calls;
  most_calls = omega (arith, course.most_calls, few);
  faults = course.faults;
}

-- a call that syncs nothing, and a sync
pub ends_synced : (old mid new : DiskTold) → NoSync old mid → OneSync mid new → EndsSynced 1 old new
ends_synced old mid new none one = record { counted = omega (arith, none, one.counted); now = one.now }

-- and calls that end synced after others that did
pub ends_joined : (k j : ℕ) (old mid new : DiskTold) → EndsSynced k old mid → EndsSynced j mid new → EndsSynced (k + j) old new
ends_joined k j old mid new first second = record { counted = omega (arith, first.counted, second.counted); now = second.now }

-- each image of a call from a file that is the only image is one after its step
after : (Step : List ℕ → List ℕ → Type 0) (old mid : DiskTold) (bytes : List ℕ) → Only bytes old.images → OneCall Step old mid
    → (image : List ℕ) → mid.images image → Step bytes image
after Step old mid bytes only call image now =
    let from = call.images image now in
    subst (λ (l : List ℕ). Step l image) (only from.0 from.1) from.2

-- a step from a file that is on the disk
pub stepped : (Step : List ℕ → List ℕ → Type 0) (old mid : DiskTold) (bytes : List ℕ) → IsDisk old → Step bytes bytes → Only bytes old.images
    → OneCall Step old mid → LeavesOnly old mid (Step bytes)
stepped Step old mid bytes law none only call =
    goes_on Step old old mid (Step bytes) (started old (Step bytes) (λ image since. at_first image (only image (law.only_now image since)))) call
    (after Step old mid bytes only call)
  where
    at_first : (image : List ℕ) → image ≡ bytes → Step bytes image
    at_first image is = subst (λ (l : List ℕ). Step bytes l) (sym is) none

-- a step, and the sync after it
pub stepped_and_synced : (Step : List ℕ → List ℕ → Type 0) (old mid new : DiskTold) (bytes : List ℕ) → IsDisk old → Step bytes bytes → Only bytes old.images
    → OneCall Step old mid → OneCall Stays mid new → LeavesOnly old new (Step bytes)
stepped_and_synced Step old mid new bytes law none only call sync =
    goes_on Stays old mid new (Step bytes) (stepped Step old mid bytes law none only call) sync synced
  where
    synced : (image : List ℕ) → new.images image → Step bytes image
    synced image now =
        let from = sync.images image now in
        subst (λ (l : List ℕ). Step bytes l) (sym from.2) (after Step old mid bytes only call from.0 from.1)

-- a call that leaves what there was
pub stays : (old new : DiskTold) (bytes : List ℕ) (P : List ℕ → Type 0) → IsDisk old → P bytes → Only bytes old.images → OneCall Stays old new
    → LeavesOnly old new P
stays old new bytes P law has only call =
    goes_on Stays old old new P (started old P (λ image since. here image (only image (law.only_now image since)))) call
    (λ image now. here image (after Stays old new bytes only call image now))
  where
    here : (image : List ℕ) → image ≡ bytes → P image
    here image is = subst P (sym is) has

-- what each image has since a moment that none of the syncs is before, it has since each of them
pub since_each : (old mid new : DiskTold) (P : List ℕ → Type 0) → IsDisk new → LeavesOnly mid new P
    → ((k : ℕ) → old.syncs < k → k ≤ new.syncs → mid.moment ≤ new.sync_at k) → SinceSyncs old new P
since_each old mid new P law leaves later k more few image since =
    leaves.each image (law.since_earlier mid.moment (new.sync_at k) image (later k more few) since)
