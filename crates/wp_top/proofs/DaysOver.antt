-- Days that are planned, by the history with which they began.
use Rattle.std.proofs.Common.{◌≡◌, ◌∙◌, refl, sym, ap, ℕ, ◌+◌, ◌≤◌, List, [], ◌∷◌, length, drop, map, Result, Ok, Err, arith}
use Rattle.std.proofs.lemmas.List.Elements.{All-cons, All-head, All-nil, All-tail}
use Rattle.std.specs.Borrow.{Bor}
use Rattle.std.specs.List.{All}
use Rattle.std.specs.Prelude.{IsErrOf, OnErr, OnOk, false, is_err, true}
use Rattle.wp_desk.specs.GoingOn.{new_entries}
use Rattle.wp_floor.proofs.Floors.{is_opening}
use Rattle.wp_journal.proofs.Replayed.{lines_count}
use Rattle.wp_journal.specs.Days.{IsDay}
use Rattle.wp_journal.specs.Replays.{LinesBegin}
use Rattle.wp_model.specs.Tables.{AreReadScripts, IsReadOpening}
use Rattle.wp_model.specs.History.{History, Script, opened}
use Rattle.wp_model.specs.Opening.{Opening}
use Rattle.wp_model.specs.Warehouse.{Layout}
use Rattle.wp_planner.specs.Terms.{Terms}
use Rattle.wp_store.specs.Disk.{DiskTold, IsTooLong, WhereTold}
use Rattle.wp_store.specs.declared.faults.AppendFault.{AppendFault}
use Rattle.wp_store.specs.declared.faults.AppendFault.TheVariants as append_fault
use Rattle.wp_store.specs.declared.faults.OpenFault.{OpenFault}
use Rattle.wp_store.specs.declared.faults.OpenFault.TheVariants as open_fault
use Rattle.wp_top.proofs.PlanJournals.{day_is}
use Rattle.wp_top.specs.Planned.{HasCrew, IsDayOver, IsToldOf}
use Rattle.wp_top.specs.Runs.{AreNewOf, IsHistoryOf, command_count}
use Rattle.wp_top.specs.Stops.{StopsFor, of_appends, of_records, of_store, stop_at_open}
use Rattle.wp_top.specs.Stores.{AreAllKept, AreRecordsIn, DiskCourse, GoesOnFromStore, HasFailed, Held, disk_course}
use Rattle.wp_top.specs.declared.complaint.Complaint.TheVariants as complaint
use Rattle.wp_top.specs.declared.complaint.Stop.{Stop}
use Rattle.wp_top.specs.declared.complaint.Stop.TheVariants as stop
use Rattle.wp_top.specs.declared.complaint.StoreFinding.TheVariants as store_finding
use Rattle.wp_top.specs.declared.day.DayPlans.{DayPlans}

-- a day that began with nothing
pub fresh_over : (disk : DiskCourse) (store : ℕ) (layout : Layout) (opening : Opening) (terms : Terms) (scripts : List Script) (day : DayPlans)
    → (store ≡ 1 → ⊥) → IsHistoryOf opening scripts (opened opening) day.run.machine → IsToldOf layout terms (opened opening) day.run
    → HasCrew terms day.run day.crew → IsDayOver disk store layout opening terms scripts day
fresh_over disk store layout opening terms scripts day other answers told dealt = record {
  start = opened opening;
  stored = record {
    begun = record { stored = λ uses. absurd (other uses); without = λ fresh. refl };
    kept = λ uses. absurd (other uses);
  };
  answers = answers;
  told = told;
  dealt = dealt;
}

-- one that began with the history of a store
pub stored_over : (disk : DiskCourse) (store : ℕ) (layout : Layout) (opening : Opening) (terms : Terms) (scripts : List Script) (start : History)
    (day : DayPlans) → store ≡ 1 → GoesOnFromStore disk.old.holds opening (command_count scripts) start → IsHistoryOf opening scripts start day.run.machine
    → IsToldOf layout terms start day.run → HasCrew terms day.run day.crew → AreAllKept disk (new_entries start day.run.machine)
    → IsDayOver disk store layout opening terms scripts day
stored_over disk store layout opening terms scripts start day uses from answers told dealt kept = record {
  start = start;
  stored = record { begun = record { stored = λ same. from; without = λ other. absurd (other uses) }; kept = λ same. kept };
  answers = answers;
  told = told;
  dealt = dealt;
}

-- as many new entries as the history has after those of the records
pub new_are_after : (opening : Opening) (bodies : List (List ℕ)) (start history : History) → LinesBegin opening bodies start []
    → drop (length bodies) history.entries ≡ new_entries start history
new_are_after opening bodies start history begins =
    ap (λ (n : ℕ). drop n history.entries) (counted (length start.entries) (length bodies) (lines_count opening bodies start [] begins))
  where
    counted : (n m : ℕ) → m ≡ n + 0 → m ≡ n
    counted n m is = omega (arith, is)

-- the history of a day that went on from that of records is one of a day
pub stored_is_day : (opening : Opening) (scripts : List Script) (bodies : List (List ℕ)) (start history : History) → IsReadOpening opening
    → AreReadScripts scripts → LinesBegin opening bodies start [] → length bodies + command_count scripts ≤ 10000
    → IsHistoryOf opening scripts start history → IsDay history × (length history.entries ≡ length start.entries + command_count scripts)
stored_is_day opening scripts bodies start history read are begins few answers =
    day_is opening scripts start history (is_opening opening read) read.stock.named are begins.within
    (omega (arith, lines_count opening bodies start [] begins, few)) answers

-- opening a store stops a run for its causes
pub open_stops : (disk : DiskCourse) (opening : Opening) (commands : ℕ) (why : OpenFault) → (why ≡ open_fault.Disk → HasFailed disk)
    → (why ≡ open_fault.TooLong → WhereTold disk.old.holds IsTooLong) → StopsFor (of_store disk opening commands) (stop_at_open why)
open_stops disk opening commands open_fault.Disk failed long = failed refl
open_stops disk opening commands open_fault.TooLong failed long = (store_finding.TooLong, refl, long refl)
open_stops disk opening commands open_fault.Memory failed long = tt

-- a day goes on from what was recovered
pub from_store : (held : Held) (opening : Opening) (commands : ℕ) (bodies : List (List ℕ)) (start : History) → AreRecordsIn held bodies
    → LinesBegin opening bodies start [] → length bodies + commands ≤ 10000
    → WhereTold held (λ told. IsTooLong told → ⊥) → GoesOnFromStore held opening commands start
from_store held opening commands bodies start records begins few short =
    record { bodies = bodies; records = records; begins = begins; few = few; short = short }

-- a day goes on from what was recovered, by the list of it that was replayed
pub from_recovered : (held : Held) (opening : Opening) (commands : ℕ) (recovered bodies : List (List ℕ)) (start : History) → bodies ≡ recovered
    → AreRecordsIn held recovered → LinesBegin opening bodies start [] → length bodies + commands ≤ 10000
    → WhereTold held (λ told. IsTooLong told → ⊥) → GoesOnFromStore held opening commands start
from_recovered held opening commands recovered bodies start same records begins few short =
    from_store held opening commands bodies start (λ bytes told. same ∙ records bytes told) begins few short

-- the entries that a machine has after those that were recovered are the new ones
pub after_recovered : (opening : Opening) (recovered bodies : List (List ℕ)) (start history : History) → bodies ≡ recovered → LinesBegin opening bodies start []
    → drop (length recovered) history.entries ≡ new_entries start history
after_recovered opening recovered bodies start history same begins =
    ap (λ (all : List (List ℕ)). drop (length all) history.entries) (sym same) ∙ new_are_after opening bodies start history begins

-- and those of a day that answers its scripts
pub are_new_of : (held : Held) (opening : Opening) (scripts : List Script) (recovered bodies : List (List ℕ)) (start history : History) → bodies ≡ recovered
    → AreRecordsIn held recovered → LinesBegin opening bodies start [] → length bodies + command_count scripts ≤ 10000
    → WhereTold held (λ told. IsTooLong told → ⊥) → IsHistoryOf opening scripts start history
    → AreNewOf held opening scripts (drop (length recovered) history.entries)
are_new_of held opening scripts recovered bodies start history same records begins few short answers = record {
  start = start;
  from = from_recovered held opening (command_count scripts) recovered bodies start same records begins few short;
  history = history;
  answers = answers;
  new = after_recovered opening recovered bodies start history same begins;
}

-- what holds of values holds of the references to them
pub each_by_reference : {A : Type 0} (P : A → Type 0) (xs : List (Bor A)) → All P (map (λ x. x.now) xs) → All (λ x. P x.now) xs
each_by_reference P [] all = All-nil (λ x. P x.now)
each_by_reference P (x ∷ xs) all =
    All-cons (λ y. P y.now) x xs (All-head P x.now (map (λ y. y.now) xs) all) (each_by_reference P xs (All-tail P x.now (map (λ y. y.now) xs) all))

-- an append that isn't an error was done
pub if_appended : {T E : Type 0} {P : Type 0} (result : Result T E) → is_err result ≡ false → OnOk result P → P
if_appended (Ok done) fine holds = holds
if_appended (Err why) fine holds = cc fine

-- what holds of one that is an error
pub if_failed : {T E : Type 0} {P : Type 0} (result : Result T E) → is_err result ≡ true → OnErr result P → P
if_failed (Ok done) failed holds = cc failed
if_failed (Err why) failed holds = holds

-- one that isn't an error didn't fail at the disk
pub no_error : {T : Type 0} (result : Result T AppendFault) → is_err result ≡ false → IsErrOf result append_fault.Disk → ⊥
no_error (Ok done) fine failed = cc failed
no_error (Err why) fine failed = cc fine

-- one that is an error, of a store that isn't broken, failed at the disk
pub disk_failed : {T : Type 0} (result : Result T AppendFault) → is_err result ≡ true → (IsErrOf result append_fault.Broken → ⊥)
    → IsErrOf result append_fault.Disk
disk_failed (Ok done) failed sound = cc failed
disk_failed (Err append_fault.Disk) failed sound = refl
disk_failed (Err append_fault.Broken) failed sound = absurd (sound refl)

-- what stops a run at its records stops it at its store
pub records_stop : (disk : DiskCourse) (opening : Opening) (bodies : List (List ℕ)) (commands : ℕ) (s : Stop) → AreRecordsIn disk.old.holds bodies
    → StopsFor (of_records opening bodies commands) s → StopsFor (of_store disk opening commands) s
records_stop disk opening bodies commands (stop.Complaint (complaint.Words why)) are stops = absurd stops
records_stop disk opening bodies commands (stop.Complaint (complaint.Refused f why)) are stops = absurd stops
records_stop disk opening bodies commands (stop.Complaint (complaint.Fault f)) are stops = absurd stops
records_stop disk opening bodies commands (stop.Complaint (complaint.Wrong found)) are (store_finding.TooLong, is, refused) = absurd refused
records_stop disk opening bodies commands (stop.Complaint (complaint.Wrong found)) are (store_finding.Record number, is, refused) =
    (store_finding.Record number, is, (bodies, are, refused))
records_stop disk opening bodies commands (stop.Complaint (complaint.Wrong found)) are (store_finding.Entry number printed right, is, refused) =
    (store_finding.Entry number printed right, is, (bodies, are, refused))
records_stop disk opening bodies commands (stop.Complaint (complaint.Wrong found)) are (store_finding.Entries number, is, refused) =
    (store_finding.Entries number, is, (bodies, are, refused))
records_stop disk opening bodies commands (stop.Complaint complaint.Store) are stops = absurd stops
records_stop disk opening bodies commands stop.Memory are stops = tt

-- so does what stops it while entries are added, after calls in which the count didn't fall
pub appends_stop : (old mid new : DiskTold) (opening : Opening) (commands : ℕ) (s : Stop) → old.faults ≤ mid.faults
    → StopsFor (of_appends (disk_course mid new)) s → StopsFor (of_store (disk_course old new) opening commands) s
appends_stop old mid new opening commands (stop.Complaint (complaint.Words why)) later stops = absurd stops
appends_stop old mid new opening commands (stop.Complaint (complaint.Refused f why)) later stops = absurd stops
appends_stop old mid new opening commands (stop.Complaint (complaint.Fault f)) later stops = absurd stops
appends_stop old mid new opening commands (stop.Complaint (complaint.Wrong found)) later stops = absurd stops
appends_stop old mid new opening commands (stop.Complaint complaint.Store) later stops = omega (arith, later, stops)
appends_stop old mid new opening commands stop.Memory later stops = tt
