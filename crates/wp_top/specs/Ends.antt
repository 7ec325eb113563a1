-- The lines of complaints, and what each has for its cause.
use Rattle.std.specs.Prelude.{◌≡◌, ◌++◌, ℕ, ◌+◌, ◌<◌, ◌≤◌, List, ◌∷◌, String, Result, Ok, Err, codes, length}
use Rattle.std.specs.declared.alloc.Global.{Global}
use Rattle.wp_cert.specs.FaultTexts.{cert_fault_text}
use Rattle.wp_journal.specs.FaultTexts.{audit_fault_text, wrong_reply_text}
use Rattle.wp_model.specs.Journal.{after_space, line, number_after_space}
use Rattle.wp_model.specs.declared.entry.Entry.{Entry}
use Rattle.wp_outside.specs.Outside.{FilesTold}
use Rattle.wp_top.specs.Runs.{AreNewFor, ComesTo, IsWrong, UsesStore}
use Rattle.wp_top.specs.Stores.{DiskCourse, HasFailed, Held}
use Rattle.wp_top.specs.Texts.{File, HaveSaid, IsHeld, Said, file_of, files_of, input_text, refusal_text, said_with}
use Rattle.wp_top.specs.declared.complaint.Complaint.{Complaint}
use Rattle.wp_top.specs.declared.complaint.Complaint.TheVariants as complaint
use Rattle.wp_top.specs.declared.complaint.Finding.{Finding}
use Rattle.wp_top.specs.declared.complaint.Finding.TheVariants as finding
use Rattle.wp_top.specs.declared.complaint.StoreFinding.{StoreFinding}
use Rattle.wp_top.specs.declared.complaint.StoreFinding.TheVariants as store_finding
use Rattle.wp_top.specs.declared.input.Input.{Input}
use Rattle.wp_top.specs.declared.input.Refusal.{Refusal}
use Rattle.wp_words.specs.Reading.{audit_names, check_names, fault_text, make_numbers, plan_names, texts_of}
use Rattle.wp_words.specs.Words.{JobNames, audit, check, job_said, make, plan}
use Rattle.wp_words.specs.declared.job.AuditWords.{AuditWords}
use Rattle.wp_words.specs.declared.job.CheckWords.{CheckWords}
use Rattle.wp_words.specs.declared.job.MakeWords.{MakeWords}
use Rattle.wp_words.specs.declared.job.PlanWords.{PlanWords}
use Rattle.wp_words.specs.declared.fault.WordsFault.{WordsFault}

-- what is asked for: a job, or the words ask for none
abbrev pub Asked : Type 0
Asked = Result JobNames WordsFault

-- the job that the words of an audit ask for
abbrev pub audit_job : AuditWords → JobNames
audit_job words = audit (audit_names words)

-- the job that the words of a check ask for
abbrev pub check_job : CheckWords → JobNames
check_job words = check (check_names words)

-- the job that the words of a plan ask for
abbrev pub plan_job : PlanWords → JobNames
plan_job words = plan (plan_names words)

-- the job that the words of a make ask for
abbrev pub make_job : MakeWords → JobNames
make_job words = make (make_numbers words)

-- what the words of the command line ask for
abbrev pub asked_by : List (String Global) → Asked
asked_by words = job_said (texts_of words)

-- what is found in a store
abbrev pub store_finding_text : StoreFinding → List ℕ
store_finding_text store_finding.TooLong = codes "too-long"
store_finding_text (store_finding.Record number) = codes "record" ++ number_after_space number
store_finding_text (store_finding.Entry number printed right) = wrong_reply_text number printed right
store_finding_text (store_finding.Entries number) = codes "entries" ++ number_after_space number

-- what is found
abbrev pub finding_text : Finding → List ℕ
finding_text (finding.Certificate fault) = codes "certificate" ++ after_space (cert_fault_text fault)
finding_text (finding.Journal fault) = codes "journal" ++ after_space (audit_fault_text fault)
finding_text (finding.Store found) = codes "store" ++ after_space (store_finding_text found)

-- what is said of words that ask for no job, of a refused file, of a file that could not be read, of a certificate, a
-- journal or a store that isn't right, and of a store whose disk failed
abbrev pub complaint_text : Complaint → List ℕ
complaint_text (complaint.Words why) = codes "refused words" ++ after_space (fault_text why)
complaint_text (complaint.Refused file why)
    = codes "refused" ++ after_space (input_text file) ++ after_space (refusal_text why)
complaint_text (complaint.Fault file) = codes "read fault" ++ after_space (input_text file)
complaint_text (complaint.Wrong found) = codes "refused" ++ after_space (finding_text found)
complaint_text complaint.Store = codes "store fault"

-- the line of a complaint
abbrev pub complaint_line : Complaint → List ℕ
complaint_line why = line (complaint_text why)

-- what each cause of a complaint means
pub record Causes : Type 1 where
  pub words : WordsFault → Type 0
  pub refused : Input → Refusal → Type 0
  pub fault : Input → Type 0
  pub wrong : Finding → Type 0
  pub store : Type 0

-- there is no cause
abbrev pub no_cause : Causes
no_cause = record { words = λ why. ⊥; refused = λ kind why. ⊥; fault = λ kind. ⊥; wrong = λ found. ⊥; store = ⊥ }

-- a complaint has its cause among these
abbrev pub HasCause : Causes → Complaint → Type 0
HasCause causes (complaint.Words why) = causes.words why
HasCause causes (complaint.Refused kind why) = causes.refused kind why
HasCause causes (complaint.Fault kind) = causes.fault kind
HasCause causes (complaint.Wrong found) = causes.wrong found
HasCause causes complaint.Store = causes.store

-- the last read, between these two states of the files, was of one of them; those before it aren't refused, and this
-- holds of what they say and of its name
pub record EndsAt (old new : FilesTold) (files : List File) (kind : Input) (Why : Said → List ℕ → Type 0) : Type 0 where
  pub before : List File
  pub name : List ℕ
  pub later : List File
  pub place : files ≡ before ++ file_of kind name ∷ later
  pub said : Said
  pub accepted : HaveSaid (IsHeld old.holds) before said
  pub reads : new.reads ≡ old.reads + (length before + 1)
  pub why : Why said name

-- what the name holds, where that is told, is refused
abbrev pub IsRefused : FilesTold → Input → Refusal → Said → List ℕ → Type 0
IsRefused old kind why said name = (text : List ℕ) × IsHeld old.holds name text × (said_with said kind text ≡ Err why)

-- the count of faults of the name rose
abbrev pub HasRisen : FilesTold → FilesTold → Said → List ℕ → Type 0
HasRisen old new said name = old.faults name < new.faults name

-- why a job stops among files, which were read up to the one at fault: it is the first that is refused, or its count of
-- faults rose
abbrev pub among : FilesTold → FilesTold → List File → Causes
among old new files = record no_cause {
  refused = λ kind why. EndsAt old new files kind (IsRefused old kind why);
  fault = λ kind. EndsAt old new files kind (HasRisen old new);
}

-- a job is asked for, each of its files was read once, none is refused, and this holds of what they say
pub record HasRead (asked : Asked) (old new : FilesTold) (Comes : JobNames → Said → Type 0) : Type 0 where
  pub job : JobNames
  pub asked_for : asked ≡ Ok job
  pub said : Said
  pub accepted : HaveSaid (IsHeld old.holds) (files_of job) said
  pub reads : new.reads ≡ old.reads + length (files_of job)
  pub comes : Comes job said

-- the output of the job that is asked for
abbrev pub IsOutput : Asked → DiskCourse → FilesTold → FilesTold → List ℕ → Type 0
IsOutput asked disk old new output = HasRead asked old new (λ job said. ComesTo disk job said output)

-- entries are new ones of the job that is asked for, once all its files were read
abbrev pub AreNewIn : Asked → Held → FilesTold → FilesTold → List Entry → Type 0
AreNewIn asked held old new entries = HasRead asked old new (λ job said. AreNewFor held job said entries)

-- why a run complains: of its words, and then nothing was read; of a file of the job; of what is found when all were
-- read; or of its disk, when all were read and the words have a store
abbrev pub of_run : Asked → DiskCourse → FilesTold → FilesTold → Causes
of_run asked disk old new = record {
  words = λ why. (asked ≡ Err why) × (new.reads ≡ old.reads);
  refused = λ kind why. (job : JobNames) × (asked ≡ Ok job) × (among old new (files_of job)).refused kind why;
  fault = λ kind. (job : JobNames) × (asked ≡ Ok job) × (among old new (files_of job)).fault kind;
  wrong = λ found. HasRead asked old new (λ job said. IsWrong disk.old.holds job said found);
  store = HasRead asked old new (λ job said. UsesStore job × HasFailed disk);
}

-- how many reads the job takes that is asked for
abbrev pub most_reads : Asked → ℕ
most_reads (Ok job) = length (files_of job)
most_reads (Err why) = 0

-- there were no more reads than so many
abbrev pub ReadsWithin : FilesTold → FilesTold → ℕ → Type 0
ReadsWithin old new most = (old.reads ≤ new.reads) × (new.reads ≤ old.reads + most)
