-- A run keeps its promise, however it ended.
use Rattle.std.proofs.Common.{◌≡◌, ◌∙◌, refl, sym, ap, subst, ℕ, false, inl, inr, List, [], length, Option, Some, None}
use Rattle.std.proofs.Common.{Result, Ok, Err, arith}
use Rattle.std.proofs.lemmas.List.{append-nil}
use Rattle.wp_journal.proofs.OneFinding.{shows_one}
use Rattle.wp_journal.proofs.Replayed.{whole_has_next, whole_is_answered}
use Rattle.wp_journal.specs.Replays.{LinesBegin}
use Rattle.wp_journal.specs.declared.verdict.Audit.{Audit}
use Rattle.wp_journal.specs.declared.verdict.AuditFault.{AuditFault}
use Rattle.wp_model.specs.History.{History}
use Rattle.wp_model.specs.Opening.{Opening}
use Rattle.wp_outside.specs.Outside.{FilesTold, Grows, NoneFalls, SameBytes, SinkTold}
use Rattle.wp_top.specs.Ends.{AreNewIn, Asked, EndsAt, HasRisen, IsRefused, ReadsWithin, most_reads}
use Rattle.wp_top.specs.Promise.{AreGoodFiles, AsksForStore, Course, HaveBadFile, IsBadFile, Keeps, StoreStands}
use Rattle.wp_top.specs.Runs.{ComesTo, IsRight, IsWrong, UsesStore, command_count}
use Rattle.wp_top.specs.Stops.{End, Finishes, HasEnded, IsEnding, IsOfInput, complains, gives, status_number, status_of, text_of}
use Rattle.wp_top.specs.Stores.{AreSomeKept, DiskCourse, GoesOnFromStore, HasFailed, Held, IsRefusedStore}
use Rattle.wp_top.specs.Texts.{File, HaveSaid, IsHeld, Said, files_of, opening_with}
use Rattle.wp_top.specs.declared.complaint.Complaint.TheVariants as complaint
use Rattle.wp_top.specs.declared.complaint.StoreFinding.{StoreFinding}
use Rattle.wp_top.specs.declared.complaint.StoreFinding.TheVariants as store_finding
use Rattle.wp_top.specs.declared.complaint.Finding.{Finding}
use Rattle.wp_top.specs.declared.complaint.Finding.TheVariants as finding
use Rattle.wp_top.specs.declared.status.Status.{Status}
use Rattle.wp_words.specs.Words.{JobNames, audit, check, make, plan}
use Rattle.wp_words.specs.declared.fault.WordsFault.{WordsFault}
use Rattle.wp_top.proofs.Checks.{bound_no_fault}
use Rattle.wp_top.proofs.Endings.{is_of_input}
use Rattle.wp_top.proofs.RisenCounts.{bad_before_rise, none_rose}
use Rattle.wp_top.proofs.Statuses.{due, few_statuses, part_taken, sink_rose, sink_sound, sink_stands, stands, when_done, when_fault, when_refused, when_store}
use Rattle.wp_top.proofs.Statuses.{when_words, when_wrong}
use Rattle.wp_top.proofs.Statuses.{whole}
use Rattle.wp_top.proofs.ToldFiles.{none_refused, none_told, one_said}

-- what is asked for is a job or a fault of words, and not both
pub not_both : {A E : Type 0} (o : Result A E) (a : A) (e : E) → o ≡ Ok a → o ≡ Err e → ⊥
not_both o a e ok err = let same : Ok a ≡ Err e = sym ok ∙ err in cc same

ends_for_words : (asked : Asked) (run : Course) (e : End) (why : WordsFault) → IsEnding asked run.disk run.files run.files' e → asked ≡ Err why
    → status_number (status_of e) ≡ 1
ends_for_words asked run (gives text) w is bad = absurd (not_both asked is.job w is.asked_for bad)
ends_for_words asked run (complains (complaint.Words why)) w is bad = refl
ends_for_words asked run (complains (complaint.Refused f why)) w is bad = absurd (not_both asked is.0 w is.1 bad)
ends_for_words asked run (complains (complaint.Fault f)) w is bad = absurd (not_both asked is.0 w is.1 bad)
ends_for_words asked run (complains (complaint.Wrong found)) w is bad = absurd (not_both asked is.job w is.asked_for bad)
ends_for_words asked run (complains complaint.Store) w is bad = absurd (not_both asked is.job w is.asked_for bad)

job_is : (asked : Asked) (a b : JobNames) → asked ≡ Ok a → asked ≡ Ok b → a ≡ b
job_is asked a b p q = let same : ◌≡◌ {A = Asked} (Ok a) (Ok b) = sym p ∙ q in cc same

-- files that say something have none that is bad
pub none_bad : (old new : FilesTold) (files : List File) (said : Said) → HaveSaid (IsHeld old.holds) files said → HaveBadFile old new files → ⊥
none_bad old new files said accepted bad =
    none_told old.holds files bad.before bad.file bad.later said bad.said bad.text bad.why accepted bad.place bad.accepted bad.told bad.refused

none_bad_of : (asked : Asked) (run : Course) (job : JobNames) (said : Said) → asked ≡ Ok job → HaveSaid (IsHeld run.files.holds) (files_of job) said
    → IsBadFile asked run → ⊥
none_bad_of asked run job said is accepted (other, asked_for, bad) =
    none_bad run.files run.files' (files_of job) said accepted
    (subst (λ (j : JobNames). HaveBadFile run.files run.files' (files_of j)) (job_is asked other job asked_for is) bad)

ends_for_bad_file : (asked : Asked) (run : Course) (e : End) → IsEnding asked run.disk run.files run.files' e → IsBadFile asked run
    → status_number (status_of e) ≡ 2
ends_for_bad_file asked run (gives text) is bad = absurd (none_bad_of asked run is.job is.said is.asked_for is.accepted bad)
ends_for_bad_file asked run (complains (complaint.Words why)) is bad = absurd (not_both asked bad.0 why bad.1 is.0)
ends_for_bad_file asked run (complains (complaint.Refused f why)) is bad = refl
ends_for_bad_file asked run (complains (complaint.Fault f)) is bad =
    absurd (bad_before_rise (files_of bad.0) run.files run.files' f bad.2
    (subst (λ (j : JobNames). EndsAt run.files run.files' (files_of j) f (HasRisen run.files run.files')) (job_is asked is.0 bad.0 is.1 bad.1) is.2))
ends_for_bad_file asked run (complains (complaint.Wrong found)) is bad = absurd (none_bad_of asked run is.job is.said is.asked_for is.accepted bad)
ends_for_bad_file asked run (complains complaint.Store) is bad = absurd (none_bad_of asked run is.job is.said is.asked_for is.accepted bad)

ok_no_err : (a : Audit) (fault : AuditFault) → ◌≡◌ {A = Result Audit AuditFault} (Ok a) (Err fault) → ⊥
ok_no_err a fault e = cc e

-- where a disk tells its bytes and its count stands, what the store has isn't both what a day goes on from and refused
store_no_refusal : (held : Held) (opening : Opening) (commands : ℕ) (start : History) (told : List ℕ) (found : StoreFinding) → held ≡ Some told
    → GoesOnFromStore held opening commands start → IsRefusedStore held opening commands found → ⊥
store_no_refusal held opening commands start told store_finding.TooLong tells from refused = from.short told tells (refused told tells)
store_no_refusal held opening commands start told (store_finding.Record number) tells from (bodies, records, bad) =
    let same = from.records told tells ∙ sym (records told tells) in
    whole_has_next opening bodies start bad.history bad.next bad.others (subst (λ (l : List (List ℕ)). LinesBegin opening l start []) same from.begins)
    bad.begins bad.bad
store_no_refusal held opening commands start told (store_finding.Entry number printed right) tells from (bodies, records, wrong) =
    let same = from.records told tells ∙ sym (records told tells) in
    whole_is_answered opening bodies start wrong.history wrong.next wrong.others number printed right
    (subst (λ (l : List (List ℕ)). LinesBegin opening l start []) same from.begins) wrong.begins wrong.misanswered
store_no_refusal held opening commands start told (store_finding.Entries number) tells from (bodies, records, many) =
    let same = from.records told tells ∙ sym (records told tells) in
    absurd (omega (arith, ap length same, from.few, many.counted, many.many))

-- what a job holds against its files, and what its store has, isn't both right and wrong
right_no_wrong : (run : Course) (job : JobNames) (said : Said) (found : Finding) → StoreStands run job → IsRight run.disk.old.holds job said
    → IsWrong run.disk.old.holds job said found → ⊥
right_no_wrong run (plan names) said (finding.Store found) stands right (uses, refused) =
    let store = stands uses in
    let from = right uses in
    store_no_refusal run.disk.old.holds (opening_with said.opening names.units) (command_count said.scripts) from.0 store.0.0 found store.0.1 from.1 refused
right_no_wrong run (plan names) said (finding.Certificate fault) stands right wrong = wrong
right_no_wrong run (plan names) said (finding.Journal fault) stands right wrong = wrong
right_no_wrong run (check names) said (finding.Journal fault) stands right wrong = wrong
right_no_wrong run (check names) said (finding.Store found) stands right wrong = wrong
right_no_wrong run (check names) said (finding.Certificate fault) stands (bound, right) wrong =
    bound_no_fault said.layout said.certificate bound fault right wrong
right_no_wrong run (make numbers) said (finding.Certificate fault) stands right wrong = wrong
right_no_wrong run (make numbers) said (finding.Journal fault) stands right wrong = wrong
right_no_wrong run (make numbers) said (finding.Store found) stands right wrong = wrong
right_no_wrong run (audit names) said (finding.Certificate fault) stands right wrong = wrong
right_no_wrong run (audit names) said (finding.Store found) stands right wrong = wrong
right_no_wrong run (audit names) said (finding.Journal fault) stands (entries, right) wrong =
    ok_no_err (record { entries = entries }) fault
    (shows_one (opening_with said.opening names.units) said.journal (Ok (record { entries = entries })) (Err fault) right wrong)

-- an output is what right files come to
right_output : (disk : DiskCourse) (job : JobNames) (said : Said) (output : List ℕ) → ComesTo disk job said output → IsRight disk.old.holds job said
right_output disk (plan names) said output comes = λ uses. (comes.day.start, comes.stored.begun.stored uses)
right_output disk (check names) said output comes = (comes.bound, comes.shows.tree)
right_output disk (audit names) said output comes = (comes.entries, comes.shows)
right_output disk (make numbers) said output comes = tt

-- where the disk's count stands, no run of a store complains of it
no_store_fault : (run : Course) (job other : JobNames) → StoreStands run job → other ≡ job → UsesStore other × HasFailed run.disk → ⊥
no_store_fault run job other stands same (uses, failed) =
    (stands (subst UsesStore same uses)).1 failed

-- what the files of the job say is what they are told to say
said_is : (asked : Asked) (run : Course) (job other : JobNames) (said more : Said) → AreGoodFiles asked run job said → asked ≡ Ok other
    → HaveSaid (IsHeld run.files.holds) (files_of other) more → (other ≡ job) × (more ≡ said)
said_is asked run job other said more good asked_for have =
    let same = job_is asked other job asked_for good.asked_for in (
      same,
      one_said run.files.holds (files_of job) more said
          (subst (λ (j : JobNames). HaveSaid (IsHeld run.files.holds) (files_of j) more) same have) good.accepted,
    )

ends_for_wrong : (asked : Asked) (run : Course) (e : End) (job : JobNames) (said : Said) (found : Finding)
    → IsEnding asked run.disk run.files run.files' e → AreGoodFiles asked run job said → StoreStands run job → IsWrong run.disk.old.holds job said found
    → status_number (status_of e) ≡ 6
ends_for_wrong asked run (gives text) job said found is good store wrong =
    let same = said_is asked run job is.job said is.said good is.asked_for is.accepted in
    absurd (right_no_wrong run job said found store (right_output run.disk job said text
    (subst (λ (s : Said). ComesTo run.disk job s text) same.1 (subst (λ (j : JobNames). ComesTo run.disk j is.said text) same.0 is.comes)))
    wrong)
ends_for_wrong asked run (complains (complaint.Words why)) job said found is good store wrong = absurd (not_both asked job why good.asked_for is.0)
ends_for_wrong asked run (complains (complaint.Refused f why)) job said found is good store wrong =
    absurd (none_refused run.files run.files' (files_of job) said f why good.accepted
    (subst (λ (j : JobNames). EndsAt run.files run.files' (files_of j) f (IsRefused run.files f why)) (job_is asked is.0 job is.1 good.asked_for) is.2))
ends_for_wrong asked run (complains (complaint.Fault f)) job said found is good store wrong =
    absurd (none_rose (files_of job) run.files run.files' f good.stand
    (subst (λ (j : JobNames). EndsAt run.files run.files' (files_of j) f (HasRisen run.files run.files')) (job_is asked is.0 job is.1 good.asked_for) is.2))
ends_for_wrong asked run (complains (complaint.Wrong other)) job said found is good store wrong = refl
ends_for_wrong asked run (complains complaint.Store) job said found is good store wrong =
    absurd (no_store_fault run job is.job store (job_is asked is.job job is.asked_for good.asked_for) is.comes)

ends_for_good : (asked : Asked) (run : Course) (e : End) (job : JobNames) (said : Said) → IsEnding asked run.disk run.files run.files' e
    → AreGoodFiles asked run job said → StoreStands run job → IsRight run.disk.old.holds job said → status_number (status_of e) ≡ 0
ends_for_good asked run (gives text) job said is good store right = refl
ends_for_good asked run (complains (complaint.Words why)) job said is good store right = absurd (not_both asked job why good.asked_for is.0)
ends_for_good asked run (complains (complaint.Refused f why)) job said is good store right =
    absurd (none_refused run.files run.files' (files_of job) said f why good.accepted
    (subst (λ (j : JobNames). EndsAt run.files run.files' (files_of j) f (IsRefused run.files f why)) (job_is asked is.0 job is.1 good.asked_for) is.2))
ends_for_good asked run (complains (complaint.Fault f)) job said is good store right =
    absurd (none_rose (files_of job) run.files run.files' f good.stand
    (subst (λ (j : JobNames). EndsAt run.files run.files' (files_of j) f (HasRisen run.files run.files')) (job_is asked is.0 job is.1 good.asked_for) is.2))
ends_for_good asked run (complains (complaint.Wrong found)) job said is good store right =
    let same = said_is asked run job is.job said is.said good is.asked_for is.accepted in
    absurd (right_no_wrong run job said found store right (subst (λ (s : Said). IsWrong run.disk.old.holds job s found) same.1
    (subst (λ (j : JobNames). IsWrong run.disk.old.holds j is.said found) same.0 is.comes)))
ends_for_good asked run (complains complaint.Store) job said is good store right =
    absurd (no_store_fault run job is.job store (job_is asked is.job job is.asked_for good.asked_for) is.comes)

-- what a run left as it was
pub record IsFrame (asked : Asked) (run : Course) : Type 0 where
  pub same : SameBytes run.files.holds run.files'.holds
  pub counts : NoneFalls run.files.faults run.files'.faults
  pub reads : ReadsWithin run.files run.files' (most_reads asked)
  pub no_more : run.sink.stopped ≡ false → run.sink'.late ≡ run.sink.late
  pub stored : AsksForStore asked → AreSomeKept run.disk (AreNewIn asked run.disk.old.holds run.files run.files')

-- what is asked for is a job that goes on from the store
asks_for_store : (asked : Asked) (job : JobNames) → asked ≡ Ok job → UsesStore job → AsksForStore asked
asks_for_store asked job is uses = subst AsksForStore (sym is) uses

-- what a run left of its disk
pub record LeavesDisk {D : Type 0} (asked : Asked) (ended : Status) (disk disk' : D) : Type 0 where
  pub untouched : (AsksForStore asked → ⊥) → disk' ≡ disk
  pub unopened : IsOfInput ended → disk' ≡ disk

-- a run that ended so keeps its promise
keeps : {D : Type 0} (asked : Asked) (run : Course) (disk disk' : D) (ended : Status) (e : End) → IsFrame asked run → LeavesDisk asked ended disk disk'
    → IsEnding asked run.disk run.files run.files' e
    → Finishes e run.sink run.sink' ended → Keeps asked run disk disk' (status_number ended)
keeps asked run disk disk' ended e frame left cause finishes =
    record {
      done = λ status. let t = whole asked run ended 0 e finishes status (inl (omega arith)) in when_done asked run e cause t.is t.took;
      words = λ status. let t = whole asked run ended 1 e finishes status (inl (omega arith)) in when_words asked run e cause t.is t.took;
      refused = λ status. let t = whole asked run ended 2 e finishes status (inl (omega arith)) in when_refused asked run e cause t.is t.took;
      fault = λ status. let t = whole asked run ended 3 e finishes status (inl (omega arith)) in when_fault asked run e cause t.is t.took;
      sink = λ status. (sink_rose asked run ended e finishes status).0;
      cut = λ status. (text_of e, due asked run e cause, (sink_rose asked run ended e finishes status).1);
      partial = λ status. inr (text_of e, due asked run e cause, part_taken run ended e finishes status);
      wrong = λ status. let t = whole asked run ended 6 e finishes status (inr (omega arith)) in when_wrong asked run e cause t.is t.took;
      store = λ status. let t = whole asked run ended 7 e finishes status (inr (omega arith)) in when_store asked run e cause t.is t.took;
      most = few_statuses ended;
      bad_words = λ why bad stand. stands run ended 1 e finishes stand (ends_for_words asked run e why cause bad);
      bad_file = λ bad stand. stands run ended 2 e finishes stand (ends_for_bad_file asked run e cause bad);
      bad_content = λ job said found good store wrong stand. stands run ended 6 e finishes stand
          (ends_for_wrong asked run e job said found cause good store wrong);
      complete = λ job said good store right stand. stands run ended 0 e finishes stand (ends_for_good asked run e job said cause good store right);
      stored = λ job is uses. frame.stored (asks_for_store asked job is uses);
      untouched = left.untouched;
      unopened = λ some few. left.unopened (is_of_input ended some few);
      same = frame.same;
      counts = frame.counts;
      reads = frame.reads;
      sink_count = sink_stands run ended e finishes;
      sound = sink_sound run ended e finishes;
      no_more = frame.no_more;
    }

nothing_more : (taken taken' : Option (List ℕ)) → taken' ≡ taken → Grows taken taken' []
nothing_more None taken' same = same
nothing_more (Some bytes) taken' same = same ∙ ap Some (sym (append-nil bytes))

-- so does one that had no memory before it could end
keeps_nothing : {D : Type 0} (asked : Asked) (run : Course) (disk disk' : D) → IsFrame asked run → ((AsksForStore asked → ⊥) → disk' ≡ disk)
    → run.sink' ≡ run.sink → Keeps asked run disk disk' 5
keeps_nothing asked run disk disk' frame untouched same = record {
  done = λ status. absurd (omega (arith, status));
  words = λ status. absurd (omega (arith, status));
  refused = λ status. absurd (omega (arith, status));
  fault = λ status. absurd (omega (arith, status));
  sink = λ status. absurd (omega (arith, status));
  cut = λ status. absurd (omega (arith, status));
  partial = λ status. inl (nothing_more run.sink.taken run.sink'.taken (ap (λ (sink : SinkTold). sink.taken) same));
  wrong = λ status. absurd (omega (arith, status));
  store = λ status. absurd (omega (arith, status));
  most = omega arith;
  bad_words = λ why bad stand. inr refl;
  bad_file = λ bad stand. inr refl;
  bad_content = λ job said found good store wrong stand. inr refl;
  complete = λ job said good store right stand. inr refl;
  stored = λ job is uses. frame.stored (asks_for_store asked job is uses);
  untouched = untouched;
  unopened = λ some few. absurd (omega (arith, few));
  same = frame.same;
  counts = frame.counts;
  reads = frame.reads;
  sink_count = λ other. ap (λ (sink : SinkTold). sink.faults) same;
  sound = λ other another. ap (λ (sink : SinkTold). sink.stopped) same;
  no_more = frame.no_more;
}

-- a run that ended so, with an end or for want of memory before it had one
pub run_keeps : {D : Type 0} (asked : Asked) (run : Course) (disk disk' : D) (ended : Status) → IsFrame asked run → LeavesDisk asked ended disk disk'
    → HasEnded asked run.disk run.files run.files' run.sink run.sink' ended
    → Keeps asked run disk disk' (status_number ended)
run_keeps asked run disk disk' ended frame left (inl (e, cause, finishes)) = keeps asked run disk disk' ended e frame left cause finishes
run_keeps asked run disk disk' ended frame left (inr (none, same)) =
    subst (Keeps asked run disk disk') (ap status_number (sym none)) (keeps_nothing asked run disk disk' frame left.untouched same)
