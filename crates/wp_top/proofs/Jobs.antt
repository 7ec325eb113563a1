-- What the jobs come to.
use Rattle.std.proofs.Common.{◌≡◌, ◌∙◌, refl, sym, ap, subst, ℕ, ⊎_elim, inl, inr, List, [], ◌∷◌, ◌++◌, None, Option, Result, Ok, Err, arith}
use Rattle.std.specs.Prelude.{⊤, IfOk, OnOk}
use Rattle.wp_desk.specs.declared.day_run.DayRun.{DayRun}
use Rattle.wp_journal.specs.Journals.{IsJournalOf, Shows}
use Rattle.wp_machine.specs.declared.outcome.WaveHolds.{WaveHolds}
use Rattle.wp_model.specs.History.{Script, opened}
use Rattle.wp_model.specs.Opening.{Opening}
use Rattle.wp_model.specs.Warehouse.{Layout}
use Rattle.wp_model.specs.declared.entry.Entry.{Entry}
use Rattle.wp_outside.specs.Outside.{FilesTold, NoneFalls, SameBytes}
use Rattle.wp_planner.specs.declared.planner.WavePlan.{WavePlan}
use Rattle.wp_top.proofs.FilesRead.{HaveRead, WasRead, nothing_said_yet, read_next, say_next, stops_among_more, stops_there}
use Rattle.wp_top.proofs.MadeDays.{whole_plans}
use Rattle.wp_top.proofs.WavesOut.{waves_are}
use Rattle.wp_top.specs.Ends.{AreNewIn, Asked, HasRead, IsOutput, among, of_run}
use Rattle.wp_top.specs.Planned.{IsToldOf}
use Rattle.wp_top.specs.Runs.{AreBracketed, AreNewOf, ComesTo, Day, IsHistoryOf, IsSummary, IsTextOf, IsWrong, UsesStore, audit_line, command_count}
use Rattle.wp_top.specs.Sections.{waves_out}
use Rattle.wp_top.specs.Sheets.{terms_of}
use Rattle.wp_top.specs.Stops.{HasRightText, IsMadeDay, IsRead, IsReadDay, IsSaid, StopsAt, StopsFor, day_said, of_file, of_journal, of_store, opening_files}
use Rattle.wp_top.specs.Stops.{stop_at_words, tables_said}
use Rattle.wp_top.specs.Stores.{AreSomeKept, DiskCourse, Held, IsRefusedStore, IsStored, no_disk}
use Rattle.wp_planner.specs.Sent.{plans_of}
use Rattle.wp_top.specs.Summaries.{AreGoodPlans, AreWholePlans, made_terms, summary_of}
use Rattle.wp_top.specs.Texts.{File, Said, file_of, files_of, nothing_said, opening_with, said_with, scripts_in, text_in}
use Rattle.wp_top.specs.declared.complaint.Complaint.TheVariants as complaint
use Rattle.wp_top.specs.declared.complaint.Finding.{Finding}
use Rattle.wp_top.specs.declared.complaint.Finding.TheVariants as finding
use Rattle.wp_top.specs.declared.complaint.Stop.{Stop}
use Rattle.wp_top.specs.declared.complaint.Stop.TheVariants as stop
use Rattle.wp_top.specs.declared.input.Input.{Input}
use Rattle.wp_top.specs.declared.input.Input.TheVariants as input
use Rattle.wp_top.specs.declared.input.Refusal.{Refusal}
use Rattle.wp_words.specs.Reading.{IsFaultOf}
use Rattle.wp_words.specs.declared.fault.WordsFault.{WordsFault}
use Rattle.wp_words.specs.declared.fault.WordsFault.TheVariants as fault
use Rattle.wp_words.specs.Words.{AuditNames, JobNames, MakeNumbers, PlanNames, audit, check, make, plan}

-- a stop among a job's files is one of the job
pub stop_of : (disk : DiskCourse) (old new : FilesTold) (job : JobNames) (s : Stop) → StopsFor (among old new (files_of job)) s
    → StopsFor (of_run (Ok job) disk old new) s
stop_of disk old new job (stop.Complaint (complaint.Words why)) stops = absurd stops
stop_of disk old new job (stop.Complaint (complaint.Refused kind why)) stops = (job, refl, stops)
stop_of disk old new job (stop.Complaint (complaint.Fault kind)) stops = (job, refl, stops)
stop_of disk old new job (stop.Complaint (complaint.Wrong found)) stops = absurd stops
stop_of disk old new job (stop.Complaint complaint.Store) stops = absurd stops
stop_of disk old new job stop.Memory stops = tt

-- words that ask for no job stop a run before it reads
pub words_stop : (disk : DiskCourse) (asked : Asked) (told : FilesTold) (why : WordsFault) → IsFaultOf asked why
    → StopsFor (of_run asked disk told told) (stop_at_words why)
words_stop disk asked told fault.NoMode is = (is refl, refl)
words_stop disk asked told fault.UnknownMode is = (is refl, refl)
words_stop disk asked told fault.BadWords is = (is refl, refl)
words_stop disk asked told (fault.TooManyWaves waves) is = (is refl, refl)
words_stop disk asked told fault.Memory is = tt

-- a stop among the first files
pub stop_at_opening : (disk : DiskCourse) (old new : FilesTold) (job : JobNames) (files : List File) (last : File) (s : Stop)
    → files_of job ≡ files ++ last ∷ [] → StopsFor (among old new files) s → StopsFor (of_run (Ok job) disk old new) s
stop_at_opening disk old new job files last s are stops =
    stop_of disk old new job s (subst (λ fs. StopsFor (among old new fs) s) (sym are) (stops_among_more old new files (last ∷ []) s stops))

-- nothing came of the last file
pub stop_at_last : {A : Type 0} (disk : DiskCourse) (says : List ℕ → Result A Refusal) (old mid new : FilesTold) (job : JobNames) (files : List File)
    (said : Said)
    (kind : Input) (name : List ℕ) (s : Stop) → files_of job ≡ files ++ file_of kind name ∷ []
    → ((text : List ℕ) (why : Refusal) → says text ≡ Err why → said_with said kind text ≡ Err why) → HaveRead old mid files said
    → StopsFor (of_file says mid new name kind) s → StopsFor (of_run (Ok job) disk old new) s
stop_at_last disk says old mid new job files said kind name s are refuses so_far nothing =
    stop_of disk old new job s (subst (λ fs. StopsFor (among old new fs) s) (sym are)
    (stops_there says old mid new files [] said kind name s refuses so_far nothing))

-- each file of a job was read
pub has_read : (old new : FilesTold) (job : JobNames) (said : Said) (Comes : JobNames → Said → Type 0) → HaveRead old new (files_of job) said
    → Comes job said → HasRead (Ok job) old new Comes
has_read old new job said Comes read comes = record { job = job; asked_for = refl; said = said; accepted = read.accepted; reads = read.reads; comes = comes }

-- an opening with its own units is the same
pub with_units : (opening : Opening) (units : Option ℕ) → opening.units ≡ units → opening_with opening units ≡ opening
with_units opening units is = ap (opening_with opening) (sym is)

-- what the files of an audit say
abbrev with_journal : Layout → Opening → List ℕ → Said
with_journal layout opening text = record (tables_said layout opening) { journal = text }

audit_files : (old mid new : FilesTold) (names : AuditNames) (layout : Layout) (opening : Opening) (text : List ℕ)
    → HaveRead old mid (opening_files names.layout names.stock names.orders) (tables_said layout opening) → WasRead mid new
    → IsRead mid.holds names.journal text → HaveRead old new (files_of (audit names)) (with_journal layout opening text)
audit_files old mid new names layout opening text so_far was read =
    read_next old mid new (opening_files names.layout names.stock names.orders) (tables_said layout opening)
    (with_journal layout opening text) input.Journal names.journal text so_far was read.held (rw read.short refl)

-- the journal isn't right
stop_at_fault : (disk : DiskCourse) (old mid new : FilesTold) (names : AuditNames) (layout : Layout) (opening : Opening) (text : List ℕ) (s : Stop)
    → opening.units ≡ names.units
    → HaveRead old mid (opening_files names.layout names.stock names.orders) (tables_said layout opening) → WasRead mid new
    → IsRead mid.holds names.journal text → StopsFor (of_journal opening text) s → StopsFor (of_run (Ok (audit names)) disk old new) s
stop_at_fault disk old mid new names layout opening text (stop.Complaint (complaint.Words why)) units so_far was read wrong = absurd wrong
stop_at_fault disk old mid new names layout opening text (stop.Complaint (complaint.Refused f why)) units so_far was read wrong = absurd wrong
stop_at_fault disk old mid new names layout opening text (stop.Complaint (complaint.Fault f)) units so_far was read wrong = absurd wrong
stop_at_fault disk old mid new names layout opening text (stop.Complaint (complaint.Wrong found)) units so_far was read (fault, is, shows) =
    has_read old new (audit names) (with_journal layout opening text) _ (audit_files old mid new names layout opening text so_far was read)
    (subst (IsWrong disk.old.holds (audit names) (with_journal layout opening text)) (sym is)
    (subst (λ (o : Opening). Shows o text (Err fault)) (sym (with_units opening names.units units)) shows))
stop_at_fault disk old mid new names layout opening text (stop.Complaint complaint.Store) units so_far was read wrong = absurd wrong
stop_at_fault disk old mid new names layout opening text stop.Memory units so_far was read wrong = tt

-- the audit finds nothing
pub stop_at_finding : (disk : DiskCourse) (old mid new : FilesTold) (names : AuditNames) (layout : Layout) (opening : Opening) (s : Stop)
    → opening.units ≡ names.units
    → HaveRead old mid (opening_files names.layout names.stock names.orders) (tables_said layout opening)
    → SameBytes mid.holds new.holds → NoneFalls mid.faults new.faults
    → StopsAt (of_journal opening) mid new names.journal input.Journal s → StopsFor (of_run (Ok (audit names)) disk old new) s
stop_at_finding disk old mid new names layout opening s units so_far same counts (inl nothing) =
    stop_at_last disk text_in old mid new (audit names) (opening_files names.layout names.stock names.orders) (tables_said layout opening) input.Journal
    names.journal s refl (λ text why none. rw none refl) so_far nothing
stop_at_finding disk old mid new names layout opening s units so_far same counts (inr (text, read, next, wrong)) =
    stop_at_fault disk old mid new names layout opening text s units so_far (record { same = same; counts = counts; reads = next }) read wrong

-- what holds of an answer, by what holds of it and of all answers
pub ok_and_read : {A E : Type 0} (r : Result A E) (P : A → Type 0) (Q : Type 0) (R : A → Type 0) → ((a : A) → P a → Q → R a) → IfOk r P → OnOk r Q → IfOk r R
ok_and_read (Ok a) P Q R take p q = take a p q
ok_and_read (Err e) P Q R take p q = tt

-- each file of a plan was read
pub plan_files : (old mid new : FilesTold) (names : PlanNames) (layout : Layout) (opening : Opening) (scripts : List Script)
    → HaveRead old mid (opening_files names.layout names.stock names.orders) (tables_said layout opening) → WasRead mid new
    → IsSaid scripts_in mid.holds names.desks scripts → HaveRead old new (files_of (plan names)) (day_said layout (opening_with opening None) scripts)
plan_files old mid new names layout opening scripts so_far was is =
    say_next scripts_in old mid new (opening_files names.layout names.stock names.orders) (tables_said layout opening)
    (day_said layout (opening_with opening None) scripts) input.Desks names.desks scripts (λ text said. rw said refl) so_far was is

-- the output of a plan
pub plan_is : (disk : DiskCourse) (old new : FilesTold) (names : PlanNames) (layout : Layout) (opening : Opening) (scripts : List Script) (day : Day)
    (output : List ℕ) → IsReadDay names layout opening scripts old new → IsStored disk names.store opening (command_count scripts) day.start day.history
    → IsHistoryOf opening scripts day.start day.history
    → AreGoodPlans layout day.history.opening (terms_of names) (waves_out day.start day.history) day.plans → IsTextOf (terms_of names) day output
    → AreBracketed (terms_of names) day → IsOutput (Ok (plan names)) disk old new output
plan_is disk old new names layout opening scripts day output read stored answers planned text brackets =
    let own = sym (with_units opening names.units read.units) in
    record {
      job = plan names;
      asked_for = refl;
      said = day_said layout (opening_with opening None) scripts;
      accepted = read.said;
      reads = read.all;
      comes = record {
        day = day;
        promised = record { answers = subst (λ (o : Opening). IsHistoryOf o scripts day.start day.history) own answers; planned = planned };
        text = text;
        brackets = brackets;
        stored = subst (λ (o : Opening). IsStored disk names.store o (command_count scripts) day.start day.history) own stored;
      };
    }

-- what the store of a plan stops a run with
pub stop_at_store : (disk : DiskCourse) (old new : FilesTold) (names : PlanNames) (layout : Layout) (opening : Opening) (scripts : List Script) (s : Stop)
    → names.store ≡ 1 → IsReadDay names layout opening scripts old new → StopsFor (of_store disk opening (command_count scripts)) s
    → StopsFor (of_run (Ok (plan names)) disk old new) s
stop_at_store disk old new names layout opening scripts (stop.Complaint (complaint.Words why)) uses day stops = absurd stops
stop_at_store disk old new names layout opening scripts (stop.Complaint (complaint.Refused f why)) uses day stops = absurd stops
stop_at_store disk old new names layout opening scripts (stop.Complaint (complaint.Fault f)) uses day stops = absurd stops
stop_at_store disk old new names layout opening scripts (stop.Complaint (complaint.Wrong found)) uses day (refused, is, why) = record {
  job = plan names;
  asked_for = refl;
  said = day_said layout (opening_with opening None) scripts;
  accepted = day.said;
  reads = day.all;
  comes = subst (IsWrong disk.old.holds (plan names) (day_said layout (opening_with opening None) scripts)) (sym is) (
    uses,
    subst (λ (o : Opening). IsRefusedStore disk.old.holds o (command_count scripts) refused) (sym (with_units opening names.units day.units)) why,
  );
}
stop_at_store disk old new names layout opening scripts (stop.Complaint complaint.Store) uses day failed = record {
  job = plan names;
  asked_for = refl;
  said = day_said layout (opening_with opening None) scripts;
  accepted = day.said;
  reads = day.all;
  comes = (uses, failed);
}
stop_at_store disk old new names layout opening scripts stop.Memory uses day stops = tt

-- a job that isn't a plan
abbrev pub IsNoPlan : JobNames → Type 0
IsNoPlan (plan names) = ⊥
IsNoPlan other = ⊤

-- what it comes to doesn't hang on a disk
comes_with : (disk : DiskCourse) (job : JobNames) (said : Said) (output : List ℕ) → IsNoPlan job → ComesTo no_disk job said output
    → ComesTo disk job said output
comes_with disk (plan names) said output other comes = absurd other
comes_with disk (check names) said output other comes = comes
comes_with disk (audit names) said output other comes = comes
comes_with disk (make numbers) said output other comes = comes

-- nor does what is found wrong of it
wrong_with : (held : Held) (job : JobNames) (said : Said) (found : Finding) → IsNoPlan job → IsWrong no_disk.old.holds job said found
    → IsWrong held job said found
wrong_with held (plan names) said found other wrong = absurd other
wrong_with held (check names) said (finding.Certificate fault) other wrong = wrong
wrong_with held (check names) said (finding.Journal fault) other wrong = absurd wrong
wrong_with held (check names) said (finding.Store refused) other wrong = absurd wrong
wrong_with held (audit names) said (finding.Certificate fault) other wrong = absurd wrong
wrong_with held (audit names) said (finding.Journal fault) other wrong = wrong
wrong_with held (audit names) said (finding.Store refused) other wrong = absurd wrong
wrong_with held (make numbers) said found other wrong = absurd wrong

-- nor does it use a store
no_store : (job : JobNames) → IsNoPlan job → UsesStore job → ⊥
no_store (plan names) other uses = other
no_store (check names) other uses = uses
no_store (audit names) other uses = uses
no_store (make numbers) other uses = uses

-- the job that was read is the one that was asked for
no_plan_read : (asked : Asked) (job read : JobNames) → IsNoPlan job → asked ≡ Ok job → asked ≡ Ok read → IsNoPlan read
no_plan_read asked job read other is was = subst IsNoPlan (same asked job read is was) other
  where
    same : (asked : Asked) (job read : JobNames) → asked ≡ Ok job → asked ≡ Ok read → job ≡ read
    same asked job read is was = cc (sym is ∙ was)

-- so its output is one over any disk
pub output_with : (disk : DiskCourse) (old new : FilesTold) (job : JobNames) (output : List ℕ) → IsNoPlan job → IsOutput (Ok job) no_disk old new output
    → IsOutput (Ok job) disk old new output
output_with disk old new job output other is = record {
  job = is.job;
  asked_for = is.asked_for;
  said = is.said;
  accepted = is.accepted;
  reads = is.reads;
  comes = comes_with disk is.job is.said output (no_plan_read (Ok job) job is.job other refl is.asked_for) is.comes;
}

-- and what stops it is
pub stops_with : (disk : DiskCourse) (old new : FilesTold) (job : JobNames) (s : Stop) → IsNoPlan job → StopsFor (of_run (Ok job) no_disk old new) s
    → StopsFor (of_run (Ok job) disk old new) s
stops_with disk old new job (stop.Complaint (complaint.Words why)) other stops = stops
stops_with disk old new job (stop.Complaint (complaint.Refused kind why)) other stops = stops
stops_with disk old new job (stop.Complaint (complaint.Fault kind)) other stops = stops
stops_with disk old new job (stop.Complaint (complaint.Wrong found)) other stops = record {
  job = stops.job;
  asked_for = stops.asked_for;
  said = stops.said;
  accepted = stops.accepted;
  reads = stops.reads;
  comes = wrong_with disk.old.holds stops.job stops.said found (no_plan_read (Ok job) job stops.job other refl stops.asked_for) stops.comes;
}
stops_with disk old new job (stop.Complaint complaint.Store) other stops =
    absurd (no_store stops.job (no_plan_read (Ok job) job stops.job other refl stops.asked_for) stops.comes.0)
stops_with disk old new job stop.Memory other stops = tt

-- new entries of a day are new ones of its plan
pub new_in_plan : (held : Held) (old new : FilesTold) (names : PlanNames) (layout : Layout) (opening : Opening) (scripts : List Script)
    (entries : List Entry) → IsReadDay names layout opening scripts old new → AreNewOf held opening scripts entries
    → AreNewIn (Ok (plan names)) held old new entries
new_in_plan held old new names layout opening scripts entries day are = record {
  job = plan names;
  asked_for = refl;
  said = day_said layout (opening_with opening None) scripts;
  accepted = day.said;
  reads = day.all;
  comes = subst (λ (o : Opening). AreNewOf held o scripts entries) (sym (with_units opening names.units day.units)) are;
}

-- what is kept of new entries of one kind is kept of those of another
pub some_kept_as : (disk : DiskCourse) (P Q : List Entry → Type 0) → ((entries : List Entry) → P entries → Q entries) → AreSomeKept disk P → AreSomeKept disk Q
some_kept_as disk P Q gives some = record {
  entries = some.entries;
  new = ⊎_elim (λ none. inl none) (λ are. inr (gives some.entries are)) some.new;
  kept = some.kept;
  calls = some.calls;
}

-- the output of a make is a summary, whatever the files hold
pub make_is : (disk : DiskCourse) (old new : FilesTold) (numbers : MakeNumbers) (output : List ℕ) → new.reads ≡ old.reads → IsSummary numbers output
    → IsOutput (Ok (make numbers)) disk old new output
make_is disk old new numbers output unread summary = record {
  job = make numbers;
  asked_for = refl;
  said = nothing_said;
  accepted = nothing_said_yet old.holds;
  reads = omega (arith, unread);
  comes = summary;
}

-- the summary of a made day
pub summary_is : (numbers : MakeNumbers) (day : Said) (run : DayRun (Option WavePlan)) (output : List ℕ) → IsMadeDay numbers day
    → IsHistoryOf day.opening day.scripts (opened day.opening) run.machine → IsToldOf day.layout (made_terms numbers) (opened day.opening) run
    → output ≡ summary_of numbers run.machine (plans_of run.plans.items) → IsSummary numbers output
summary_is numbers day run output says answers told is =
    let history = run.machine in
    record {
      day = day;
      says = says;
      history = history;
      answers = answers;
      plans = plans_of run.plans.items;
      planned = subst (λ (sent : List WaveHolds). AreWholePlans day.layout history.opening (made_terms numbers) sent (plans_of run.plans.items))
          (told.waves ∙ waves_are (opened day.opening) history)
          (whole_plans day.layout history.opening (made_terms numbers) run.plans.items told.planned);
      is = is;
    }

-- the output of an audit
pub audit_is : (disk : DiskCourse) (old mid new : FilesTold) (names : AuditNames) (layout : Layout) (opening : Opening) (entries : ℕ) (output : List ℕ)
    → opening.units ≡ names.units → HaveRead old mid (opening_files names.layout names.stock names.orders) (tables_said layout opening) → WasRead mid new
    → HasRightText mid.holds names.journal (λ text. IsJournalOf opening text entries)
    → output ≡ audit_line entries → IsOutput (Ok (audit names)) disk old new output
audit_is disk old mid new names layout opening entries output units so_far was right is =
    has_read old new (audit names) (with_journal layout opening right.text) _ (audit_files old mid new names layout opening right.text so_far was right.read)
    (record {
      entries = entries;
      shows = subst (λ (o : Opening). IsJournalOf o right.text entries) (sym (with_units opening names.units units)) right.shows;
      is = is;
    })
