-- What a crash leaves of a store to which entries are added, at each moment.
use Rattle.std.proofs.Common.{◌≡◌, ◌∙◌, refl, sym, ap, ap₂, subst, ⊎_elim, inl, inr, ◌⊎◌, ℕ, ◌+◌, ◌<◌, ◌≤◌, List, [], ◌∷◌, ◌++◌, length, map, append_assoc}
use Rattle.std.proofs.Common.{arith}
use Rattle.std.specs.Prelude.{◌*◌, Some, slice_get, take}
use Rattle.std.proofs.lemmas.Bool.{cases_lt}
use Rattle.std.proofs.lemmas.List.{append-nil, map-append}
use Rattle.wp_model.specs.Journal.{entry_line}
use Rattle.wp_model.specs.declared.entry.Entry.{Entry}
use Rattle.wp_store.proofs.Moments.{course_joined, course_within, joined, no_course, started, weakened}
use Rattle.wp_store.proofs.Told.{same_some, told_after}
use Rattle.wp_store.specs.Disk.{DiskTold, EndsSynced, GoesOn, IsDisk, LeavesOnly, SinceSync, SinceSyncs, WhereTold}
use Rattle.wp_store.specs.Records.{records_of}
use Rattle.wp_store.specs.Store.{HasRecords, IsBeforeOrStandsFor, IsWithOrWithout, KeepsRecords, StandsFor}
use Rattle.wp_top.specs.Stores.{Appends, AreAllKept, AreImagesOfRecords, AreKept, AreSomeKept, DiskCourse, HasAdded, HasFewCalls, HasNew, DiskStands}
use Rattle.wp_top.specs.Stores.{disk_course, entry_calls, entry_syncs, opening_calls, opening_syncs, sync_of}
use Rattle.wp_top.proofs.Writing.{take_all as take_whole, take_more}

-- a file that stands for the records from before has none of the new entries, or more
pub has_none : (bodies : List (List ℕ)) (entries : List Entry) (image : List ℕ) → StandsFor bodies image → HasNew bodies entries 0 image
has_none bodies entries image stands =
    record { count = 0; no_fewer = omega arith; no_more = omega arith; stands = stands ∙ sym (append-nil bodies) }

-- one that has so many of the new entries has fewer
pub has_fewer : (bodies : List (List ℕ)) (entries : List Entry) (n k : ℕ) (image : List ℕ) → k ≤ n → HasNew bodies entries n image
    → HasNew bodies entries k image
has_fewer bodies entries n k image fewer has =
    record { count = has.count; no_fewer = omega (arith, fewer, has.no_fewer); no_more = has.no_more; stands = has.stands }

-- the records with the next of the new entries
longer : (bodies : List (List ℕ)) (entries : List Entry) (n : ℕ) (entry : Entry) → slice_get entries n ≡ Some entry
    → (bodies ++ map entry_line (take n entries)) ++ entry_line entry ∷ [] ≡ bodies ++ map entry_line (take (n + 1) entries)
longer bodies entries n entry next =
    append_assoc bodies (map entry_line (take n entries)) (entry_line entry ∷ [])
    ∙ ap (λ more. bodies ++ more) (sym (map-append entry_line (take n entries) (entry ∷ [])) ∙ ap (map entry_line) (sym (take_more entries n entry next)))

-- a file with the next of them has one more
has_next : (bodies : List (List ℕ)) (entries : List Entry) (n : ℕ) (entry : Entry) (image : List ℕ) → slice_get entries n ≡ Some entry → n < length entries
    → StandsFor ((bodies ++ map entry_line (take n entries)) ++ entry_line entry ∷ []) image → HasNew bodies entries (n + 1) image
has_next bodies entries n entry image next there stands =
    record { count = n + 1; no_fewer = omega arith; no_more = omega (arith, there); stands = stands ∙ longer bodies entries n entry next }

-- a file with the next of them or without
with_or_without : (bodies : List (List ℕ)) (entries : List Entry) (n : ℕ) (entry : Entry) (image : List ℕ) → slice_get entries n ≡ Some entry
    → n < length entries
    → IsWithOrWithout (bodies ++ map entry_line (take n entries)) (entry_line entry) image → HasNew bodies entries n image
with_or_without bodies entries n entry image next there (inl without) =
    record { count = n; no_fewer = omega arith; no_more = omega (arith, there); stands = without }
with_or_without bodies entries n entry image next there (inr with) =
    has_fewer bodies entries (n + 1) n image (omega arith) (has_next bodies entries n entry image next there with)

-- before the first append, where each image stands for the records from before
pub none_appended : (old : DiskTold) (bodies : List (List ℕ)) (entries : List Entry) → IsDisk old
    → ((image : List ℕ) → old.images image → StandsFor bodies image)
    → Appends old old bodies entries 0
none_appended old bodies entries law durable = record {
  any_moment = started old (HasNew bodies entries 0) (λ image since. has_none bodies entries image (durable image (law.only_now image since)));
  since = λ n some few. absurd (omega (arith, some, few));
  few = omega arith;
  all = omega arith;
  most = omega arith;
}

-- where an append of the next entry leaves an image
abbrev IsNextOrNot : List (List ℕ) → List Entry → ℕ → Entry → List ℕ → Type 0
IsNextOrNot bodies entries n entry = IsWithOrWithout (bodies ++ map entry_line (take n entries)) (entry_line entry)

-- what an append leaves of what was acknowledged before it
still : (old mid new : DiskTold) (bodies : List (List ℕ)) (entries : List Entry) (n : ℕ) (entry : Entry) → IsDisk mid → slice_get entries n ≡ Some entry
    → n < length entries → Appends old mid bodies entries n → GoesOn entry_calls entry_syncs mid new → LeavesOnly mid new (IsNextOrNot bodies entries n entry)
    → (k : ℕ) → 1 ≤ k → k ≤ n → SinceSync new (sync_of old.syncs k) (HasNew bodies entries k)
still old mid new bodies entries n entry law next there so_far course leaves k some few image since =
    let counted : sync_of old.syncs k ≤ mid.syncs = omega (arith, few, so_far.all) in
    let at : new.sync_at (sync_of old.syncs k) ≡ mid.sync_at (sync_of old.syncs k) = course.sync_at (sync_of old.syncs k) counted in
    let by = law.no_later_sync (sync_of old.syncs k) (omega (arith, some)) counted in
    ⊎_elim (so_far.since k some few image)
    (λ has. has_fewer bodies entries n k image few (with_or_without bodies entries n entry image next there has))
    (leaves.before (mid.sync_at (sync_of old.syncs k)) image by (subst (λ (t : ℕ). new.images_since t image) at since))

-- an append that isn't acknowledged
one_failed : (old mid new : DiskTold) (bodies : List (List ℕ)) (entries : List Entry) (n : ℕ) (entry : Entry) → IsDisk mid → slice_get entries n ≡ Some entry
    → n < length entries → Appends old mid bodies entries n → mid.syncs ≡ old.syncs + entry_syncs * n → GoesOn entry_calls entry_syncs mid new
    → new.syncs ≤ mid.syncs + 1 → LeavesOnly mid new (IsNextOrNot bodies entries n entry) → Appends old new bodies entries n
one_failed old mid new bodies entries n entry law next there so_far synced course unsynced leaves =
    let P : List ℕ → Type 0 = HasNew bodies entries 0 in
    record {
      any_moment = joined old mid new P so_far.any_moment
          (weakened mid new (IsNextOrNot bodies entries n entry) P leaves
          (λ image has. has_fewer bodies entries n 0 image (omega arith) (with_or_without bodies entries n entry image next there has)));
      since = still old mid new bodies entries n entry law next there so_far course leaves;
      few = so_far.few;
      all = omega (arith, so_far.all, course.least_syncs);
      most = omega (arith, synced, unsynced);
    }

-- an append that is
one_appended : (old mid new : DiskTold) (bodies : List (List ℕ)) (entries : List Entry) (n : ℕ) (entry : Entry) → IsDisk mid → IsDisk new
    → slice_get entries n ≡ Some entry → n < length entries → Appends old mid bodies entries n → mid.syncs ≡ old.syncs + entry_syncs * n
    → GoesOn entry_calls entry_syncs mid new → EndsSynced entry_syncs mid new → LeavesOnly mid new (IsNextOrNot bodies entries n entry)
    → ((image : List ℕ) → new.images image → StandsFor ((bodies ++ map entry_line (take n entries)) ++ entry_line entry ∷ []) image)
    → Appends old new bodies entries (n + 1)
one_appended old mid new bodies entries n entry law law' next there so_far synced course ends leaves acknowledged =
    let P : List ℕ → Type 0 = HasNew bodies entries 0 in
    record {
      any_moment = joined old mid new P so_far.any_moment
          (weakened mid new (IsNextOrNot bodies entries n entry) P leaves
          (λ image has. has_fewer bodies entries n 0 image (omega arith) (with_or_without bodies entries n entry image next there has)));
      since = λ k some few. ⊎_elim (still old mid new bodies entries n entry law next there so_far course leaves k some) (since_now k few)
          (before_or_now k n few);
      few = omega (arith, there);
      all = omega (arith, synced, ends.counted);
      most = omega (arith, synced, ends.counted);
    }
  where
    before_or_now : (k n : ℕ) → k ≤ n + 1 → (k ≤ n) ⊎ (k ≡ n + 1)
    before_or_now k n few = ⊎_elim (λ more. inr (omega (arith, more, few))) (λ le. inl le) (cases_lt n k)

    since_now : (k : ℕ) → k ≤ n + 1 → k ≡ n + 1 → SinceSync new (sync_of old.syncs k) (HasNew bodies entries k)
    since_now k few now image since =
        let last : sync_of old.syncs k ≡ new.syncs = omega (arith, now, synced, ends.counted) in
        let at : new.sync_at (sync_of old.syncs k) ≡ new.moment = ap new.sync_at last ∙ ends.now in
        has_fewer bodies entries (n + 1) k image few
        (has_next bodies entries n entry image next there (acknowledged image (law'.only_now image (subst (λ (t : ℕ). new.images_since t image) at since))))

-- what calls have left that added so many of the new entries to a store, all of them acknowledged
pub record HasAppended (old new : DiskTold) (entries : List Entry) (n : ℕ) : Type 0 where
  pub appends : WhereTold old.holds (λ bytes. Appends old new (records_of bytes) entries n)
  pub synced : WhereTold old.holds (λ bytes. new.syncs ≡ old.syncs + entry_syncs * n)
  pub stands : WhereTold old.holds (λ bytes. HasRecords new (records_of bytes ++ map entry_line (take n entries)))
  pub now : WhereTold old.holds (λ bytes. (image : List ℕ) → new.images image → StandsFor (records_of bytes ++ map entry_line (take n entries)) image)
  pub course : GoesOn (entry_calls * n) (entry_syncs * n) old new
  pub sound : new.faults ≡ old.faults

-- before the first
pub begun : (old : DiskTold) (entries : List Entry) → IsDisk old → AreImagesOfRecords old → HasAppended old old entries 0
begun old entries law durable = record {
  appends = λ bytes told. none_appended old (records_of bytes) entries law (durable bytes told);
  synced = λ bytes told. omega arith;
  stands = λ bytes told now same. ap records_of (same_some now bytes (sym same ∙ told)) ∙ sym (append-nil (records_of bytes));
  now = λ bytes told image is. durable bytes told image is ∙ sym (append-nil (records_of bytes));
  course = no_course old;
  sound = refl;
}

-- what an append of the next entry leaves, in the words of its clauses
pub record AppendsBody (mid new : DiskTold) (body : List ℕ) : Type 0 where
  pub leaves : WhereTold mid.holds (λ bytes. LeavesOnly mid new (IsWithOrWithout (records_of bytes) body))
  pub course : GoesOn entry_calls entry_syncs mid new

-- and where it is acknowledged
pub record HasAppendedBody (mid new : DiskTold) (body : List ℕ) : Type 0 where
  pub appends : AppendsBody mid new body
  pub stored : WhereTold mid.holds (λ bytes. HasRecords new (records_of bytes ++ body ∷ []))
  pub acknowledged : WhereTold mid.holds (λ bytes. (image : List ℕ) → new.images image → StandsFor (records_of bytes ++ body ∷ []) image)
  pub ends : WhereTold mid.holds (λ bytes. EndsSynced entry_syncs mid new)
  pub sound : new.faults ≡ mid.faults

-- what was told between, where it was told before
between : (old mid : DiskTold) (entries : List Entry) (n : ℕ) (bytes : List ℕ) → HasAppended old mid entries n → old.holds ≡ Some bytes
    → (after : List ℕ) × (mid.holds ≡ Some after) × (records_of after ≡ records_of bytes ++ map entry_line (take n entries))
between old mid entries n bytes so_far told =
    let after = told_after _ _ bytes so_far.course.told told in
    (after.bytes, after.told, so_far.stands bytes told after.bytes after.told)

-- an append of an entry's line, after what was added before it
next_leaves : (mid new : DiskTold) (entries : List Entry) (n : ℕ) (entry : Entry) (body : List ℕ) (bodies : List (List ℕ)) (after : List ℕ)
    → body ≡ entry_line entry → records_of after ≡ bodies ++ map entry_line (take n entries) → LeavesOnly mid new (IsWithOrWithout (records_of after) body)
    → LeavesOnly mid new (IsNextOrNot bodies entries n entry)
next_leaves mid new entries n entry body bodies after line records leaves =
    subst (λ (all : List (List ℕ)). LeavesOnly mid new (IsWithOrWithout all (entry_line entry))) records
    (subst (λ (b : List ℕ). LeavesOnly mid new (IsWithOrWithout (records_of after) b)) line leaves)

-- with one more
pub one_more : (old mid new : DiskTold) (entries : List Entry) (n : ℕ) (entry : Entry) (body : List ℕ) → IsDisk mid → IsDisk new
    → slice_get entries n ≡ Some entry → n < length entries → body ≡ entry_line entry → HasAppended old mid entries n → HasAppendedBody mid new body
    → HasAppended old new entries (n + 1)
one_more old mid new entries n entry body law law' next there line so_far done = record {
  appends = λ bytes tells.
      let (after, told, records) = between old mid entries n bytes so_far tells in
      one_appended old mid new (records_of bytes) entries n entry law law' next there (so_far.appends bytes tells) (so_far.synced bytes tells)
      done.appends.course (done.ends after told)
      (next_leaves mid new entries n entry body (records_of bytes) after line records (done.appends.leaves after told))
      (λ image is. done.acknowledged after told image is ∙ same_body records line);
  synced = λ bytes tells.
      let (after, told, records) = between old mid entries n bytes so_far tells in
      omega (arith, so_far.synced bytes tells, (done.ends after told).counted);
  stands = λ bytes tells now tells'.
      let (after, told, records) = between old mid entries n bytes so_far tells in
      done.stored after told now tells' ∙ (same_body records line ∙ longer (records_of bytes) entries n entry next);
  now = λ bytes tells image is.
      let (after, told, records) = between old mid entries n bytes so_far tells in
      done.acknowledged after told image is ∙ (same_body records line ∙ longer (records_of bytes) entries n entry next);
  course = course_within (entry_calls * n + entry_calls) (entry_calls * (n + 1)) (entry_syncs * n + entry_syncs) (entry_syncs * (n + 1)) old new
      (omega arith) (omega arith) (course_joined (entry_calls * n) entry_calls (entry_syncs * n) entry_syncs old mid new so_far.course done.appends.course);
  sound = done.sound ∙ so_far.sound;
}
  where
    same_body : {one other : List (List ℕ)} → one ≡ other → body ≡ entry_line entry → one ++ body ∷ [] ≡ other ++ entry_line entry ∷ []
    same_body is same = ap₂ (λ (bodies : List (List ℕ)) (b : List ℕ). bodies ++ b ∷ []) is same

-- and where that were all
pub all_appended : (old new : DiskTold) (entries : List Entry) → HasAppended old new entries (length entries) → HasAdded old new entries
all_appended old new entries all = record {
  appends = all.appends;
  synced = all.synced;
  now = λ bytes told image is. all.now bytes told image is ∙ ap (λ (some : List Entry). records_of bytes ++ map entry_line some) (take_whole entries);
}

-- and with one that isn't acknowledged
pub one_lost : (old mid new : DiskTold) (entries : List Entry) (n : ℕ) (entry : Entry) (body : List ℕ) → IsDisk mid → slice_get entries n ≡ Some entry
    → n < length entries → body ≡ entry_line entry → HasAppended old mid entries n → AppendsBody mid new body
    → WhereTold mid.holds (λ bytes. new.syncs ≤ mid.syncs + 1)
    → WhereTold old.holds (λ bytes. (k : ℕ) × Appends old new (records_of bytes) entries k)
one_lost old mid new entries n entry body law next there line so_far lost unsynced bytes tells =
    let (after, told, records) = between old mid entries n bytes so_far tells in (
      n,
      one_failed old mid new (records_of bytes) entries n entry law next there (so_far.appends bytes tells) (so_far.synced bytes tells) lost.course
          (unsynced after told) (next_leaves mid new entries n entry body (records_of bytes) after line records (lost.leaves after told)),
    )

-- the calls of such an append
pub lost_course : (old mid new : DiskTold) (entries : List Entry) (n m : ℕ) (body : List ℕ) → n < m → HasAppended old mid entries n → AppendsBody mid new body
    → GoesOn (entry_calls * m) (entry_syncs * m) old new
lost_course old mid new entries n m body few so_far lost =
    course_within (entry_calls * n + entry_calls) (entry_calls * m) (entry_syncs * n + entry_syncs) (entry_syncs * m) old new (omega (arith, few))
    (omega (arith, few))
    (course_joined (entry_calls * n) entry_calls (entry_syncs * n) entry_syncs old mid new so_far.course lost.course)

-- What is left of a run whose store was recovered.

-- one that added nothing
pub recovered_kept : (disk : DiskCourse) (bodies : List (List ℕ)) (entries : List Entry)
    → LeavesOnly disk.old disk.new (IsBeforeOrStandsFor disk.old bodies) → SinceSyncs disk.old disk.new (StandsFor bodies)
    → disk.new.syncs ≤ disk.old.syncs + opening_syncs → AreKept disk bodies entries
recovered_kept disk bodies entries leaves since_syncs few = record {
  any_moment = λ image since. ⊎_elim (λ before. inl before) (λ stands. inr (has_none bodies entries image stands)) (leaves.each image since);
  since_first = λ k more by image since. has_none bodies entries image (since_syncs k more by image since);
  acknowledged = λ n some counted. absurd (omega (arith, some, counted, few));
}

-- the store was recovered: at each moment there is an image from before or one that has the records, and since each sync one that has
pub record HasRecovered (old mid : DiskTold) (bodies : List (List ℕ)) : Type 0 where
  pub leaves : LeavesOnly old mid (IsBeforeOrStandsFor old bodies)
  pub since_syncs : SinceSyncs old mid (StandsFor bodies)
  pub course : GoesOn opening_calls opening_syncs old mid
  pub counted : mid.syncs ≡ old.syncs + opening_syncs

-- one that added so many entries
appended_kept : (old mid new : DiskTold) (bodies : List (List ℕ)) (entries : List Entry) (n calls syncs : ℕ) → IsDisk mid → IsDisk new
    → HasRecovered old mid bodies → GoesOn calls syncs mid new → Appends mid new bodies entries n → AreKept (disk_course old new) bodies entries
appended_kept old mid new bodies entries n calls syncs law law' recovered course appends = record {
  any_moment = λ image since. ⊎_elim (λ past. ⊎_elim (λ before. inl before) (λ stands. inr (has_none bodies entries image stands))
      (recovered.leaves.each image past))
      (λ has. inr has)
      (appends.any_moment.before old.moment image recovered.course.later since);
  since_first = λ k more few image since. ⊎_elim
      (λ after. appends.any_moment.each image
      (law'.since_earlier mid.moment (new.sync_at k) image (omega (arith, course.syncs_later k after few)) since))
      (λ by. let at : new.sync_at k ≡ mid.sync_at k = course.sync_at k by in
      ⊎_elim (λ was. has_none bodies entries image (recovered.since_syncs k more by image was)) (λ has. has)
      (appends.any_moment.before (mid.sync_at k) image (law.no_later_sync k (omega (arith, more)) by)
      (subst (λ (t : ℕ). new.images_since t image) at since)))
      (cases_lt mid.syncs k);
  acknowledged = λ n' some counted. let same : sync_of mid.syncs n' ≡ sync_of (old.syncs + opening_syncs) n' = omega (arith, recovered.counted) in
      subst (λ (k : ℕ). SinceSync new k (HasNew bodies entries n')) same (appends.since n' some (omega (arith, counted, recovered.counted, appends.most)));
}

-- a run recovered its store, by the disk that it had then, and has the records from before
pub record IsRecovered (old mid : DiskTold) : Type 0 where
  pub recovered : WhereTold old.holds (λ told. HasRecovered old mid (records_of told))
  pub same : KeepsRecords old mid
  pub course : GoesOn opening_calls opening_syncs old mid

-- by what opening it promises
pub is_recovered : (old mid : DiskTold) → WhereTold old.holds (λ told. LeavesOnly old mid (IsBeforeOrStandsFor old (records_of told)))
    → WhereTold old.holds (λ told. SinceSyncs old mid (StandsFor (records_of told))) → GoesOn opening_calls opening_syncs old mid
    → WhereTold old.holds (λ told. EndsSynced opening_syncs old mid) → KeepsRecords old mid → IsRecovered old mid
is_recovered old mid leaves since_syncs course ends same = record {
  recovered = λ bytes told. record { leaves = leaves bytes told; since_syncs = since_syncs bytes told; course = course; counted = (ends bytes told).counted };
  same = same;
  course = course;
}

-- what it told then
after_opening : (old mid : DiskTold) (bytes : List ℕ) → IsRecovered old mid → old.holds ≡ Some bytes
    → (after : List ℕ) × (mid.holds ≡ Some after) × (records_of after ≡ records_of bytes)
after_opening old mid bytes recovered told =
    let after = told_after _ _ bytes recovered.course.told told in
    (after.bytes, after.told, recovered.same bytes told after.bytes after.told)

-- the calls of the run
few_calls : (old mid new : DiskTold) (entries : List Entry) → GoesOn opening_calls opening_syncs old mid
    → GoesOn (entry_calls * length entries) (entry_syncs * length entries) mid new → HasFewCalls (disk_course old new) entries
few_calls old mid new entries opened added = omega (arith, opened.most_calls, added.most_calls)

-- some of the entries are kept, in a run that recovered its store and then added them one after the other
pub some_added : (old mid new : DiskTold) (entries : List Entry) (AreNew : List Entry → Type 0) → IsDisk mid → IsDisk new → IsRecovered old mid
    → GoesOn (entry_calls * length entries) (entry_syncs * length entries) mid new
    → WhereTold mid.holds (λ told. (n : ℕ) × Appends mid new (records_of told) entries n) → AreNew entries → AreSomeKept (disk_course old new) AreNew
some_added old mid new entries AreNew law law' recovered course some are = record {
  entries = entries;
  new = inr are;
  kept = λ bytes tells.
      let (after, told, records) = after_opening old mid bytes recovered tells in
      let added = some after told in
      appended_kept old mid new (records_of bytes) entries added.0 _ _ law law' (recovered.recovered bytes tells) course
      (subst (λ (bodies : List (List ℕ)). Appends mid new bodies entries added.0) records added.1);
  calls = few_calls old mid new entries recovered.course course;
}

-- and all of them, where the last was acknowledged
pub all_added : (old mid new : DiskTold) (entries : List Entry) → IsDisk mid → IsDisk new → IsRecovered old mid
    → GoesOn (entry_calls * length entries) (entry_syncs * length entries) mid new → HasAdded mid new entries → DiskStands (disk_course old new)
    → AreAllKept (disk_course old new) entries
all_added old mid new entries law law' recovered course all sound = record {
  kept = λ bytes tells.
      let (after, told, records) = after_opening old mid bytes recovered tells in
      appended_kept old mid new (records_of bytes) entries (length entries) _ _ law law' (recovered.recovered bytes tells) course
      (subst (λ (bodies : List (List ℕ)). Appends mid new bodies entries (length entries)) records (all.appends after told));
  acknowledged = λ bytes tells.
      let (after, told, records) = after_opening old mid bytes recovered tells in
      omega (arith, all.synced after told, (recovered.recovered bytes tells).counted);
  now = λ bytes tells image is.
      let (after, told, records) = after_opening old mid bytes recovered tells in
      all.now after told image is ∙ ap (λ (bodies : List (List ℕ)). bodies ++ map entry_line entries) records;
  calls = few_calls old mid new entries recovered.course course;
  sound = sound;
}

-- nothing is kept of a run in which the store wasn't recovered, or nothing was added
pub none_added : (disk : DiskCourse) (AreNew : List Entry → Type 0)
    → WhereTold disk.old.holds (λ told. LeavesOnly disk.old disk.new (IsBeforeOrStandsFor disk.old (records_of told)))
    → WhereTold disk.old.holds (λ told. SinceSyncs disk.old disk.new (StandsFor (records_of told))) → GoesOn opening_calls opening_syncs disk.old disk.new
    → AreSomeKept disk AreNew
none_added disk AreNew leaves since_syncs course = record {
  entries = [];
  new = inl refl;
  kept = λ bytes told. recovered_kept disk (records_of bytes) [] (leaves bytes told) (since_syncs bytes told) course.most_syncs;
  calls = omega (arith, course.most_calls);
}

-- nor of one that made no call on its disk
pub untouched_kept : (disk : DiskTold) (AreNew : List Entry → Type 0) → IsDisk disk → AreSomeKept (disk_course disk disk) AreNew
untouched_kept disk AreNew law = record {
  entries = [];
  new = inl refl;
  kept = λ bytes told. record {
    any_moment = λ image since. inl (law.only_now image since);
    since_first = λ k more few. absurd (omega (arith, more, few));
    acknowledged = λ n some counted. absurd (omega (arith, some, counted));
  };
  calls = omega arith;
}
