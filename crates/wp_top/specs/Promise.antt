-- What a run promises.
use Rattle.std.specs.Prelude.{◌≡◌, ◌⊎◌, ◌++◌, ℕ, ◌+◌, ◌≤◌, false, List, [], ◌∷◌, Ok, Err}
use Rattle.std.specs.List.{All}
use Rattle.wp_outside.specs.Outside.{FilesTold, Grows, NoneFalls, SameBytes, SinkTold, TookPart, TookPrefix}
use Rattle.wp_top.specs.Ends.{AreNewIn, Asked, HasCause, IsOutput, ReadsWithin, complaint_line, most_reads, of_run}
use Rattle.wp_top.specs.Runs.{IsRight, IsWrong, UsesStore}
use Rattle.wp_top.specs.Stores.{AreSomeKept, DiskCourse, HasFailed, IsToldOn}
use Rattle.wp_top.specs.Texts.{File, HaveSaid, IsTold, Said, files_of, said_with}
use Rattle.wp_top.specs.declared.complaint.Complaint.{Complaint}
use Rattle.wp_top.specs.declared.complaint.Complaint.TheVariants as complaint
use Rattle.wp_top.specs.declared.complaint.Finding.{Finding}
use Rattle.wp_top.specs.declared.input.Input.{Input}
use Rattle.wp_top.specs.declared.input.Refusal.{Refusal}
use Rattle.wp_words.specs.Words.{JobNames}
use Rattle.wp_words.specs.declared.fault.WordsFault.{WordsFault}

-- what files and a sink tell before a run, and after it, and what its disk tells of it
pub record Course : Type 1 where
  pub files : FilesTold
  pub sink : SinkTold
  pub files' : FilesTold
  pub sink' : SinkTold
  pub disk : DiskCourse

abbrev pub course : FilesTold → SinkTold → FilesTold → SinkTold → DiskCourse → Course
course files sink files' sink' disk = record { files = files; sink = sink; files' = files'; sink' = sink'; disk = disk }

-- the sink took this text in the run
abbrev pub Took : Course → List ℕ → Type 0
Took run text = Grows run.sink.taken run.sink'.taken text

-- a complaint has its cause
abbrev pub IsCause : Asked → Course → Complaint → Type 0
IsCause asked run why = HasCause (of_run asked run.disk run.files run.files') why

-- the sink took the line of a complaint that had its cause
abbrev pub Complains : Asked → Course → Complaint → Type 0
Complains asked run why = IsCause asked run why × Took run (complaint_line why)

-- a text that the run was due to write: its output, or the line of a complaint that had its cause
abbrev pub IsDue : Asked → Course → List ℕ → Type 0
IsDue asked run text = IsOutput asked run.disk run.files run.files' text
    ⊎ ((why : Complaint) × IsCause asked run why × (text ≡ complaint_line why))

-- the sink's count of faults stands
abbrev pub SinkStands : Course → Type 0
SinkStands run = run.sink'.faults ≡ run.sink.faults

-- so do those of the names of files, between these two states of files
abbrev pub FilesStand : FilesTold → FilesTold → List File → Type 0
FilesStand old new files = All (λ file. new.faults file.name ≡ old.faults file.name) files

-- what is asked for goes on from the store
abbrev pub AsksForStore : Asked → Type 0
AsksForStore (Ok job) = UsesStore job
AsksForStore (Err why) = ⊥

-- where a job goes on from the store, its disk tells its bytes, and its count of faults stands
abbrev pub StoreStands : Course → JobNames → Type 0
StoreStands run job = UsesStore job → ((told : List ℕ) × IsToldOn run.disk told) × (HasFailed run.disk → ⊥)

-- the run ends with a status, or memory runs out
abbrev pub EndsWith : ℕ → ℕ → Type 0
EndsWith due status = (status ≡ due) ⊎ (status ≡ 5)

-- what one of these files holds is told and refused, those before it are told and aren't refused, and no count of a
-- name up to it rose
pub record HaveBadFile (old new : FilesTold) (files : List File) : Type 0 where
  pub before : List File
  pub file : File
  pub later : List File
  pub place : files ≡ before ++ file ∷ later
  pub said : Said
  pub accepted : HaveSaid (IsTold old.holds) before said
  pub text : List ℕ
  pub told : IsTold old.holds file.name text
  pub why : Refusal
  pub refused : said_with said file.kind text ≡ Err why
  pub stand : FilesStand old new (before ++ file ∷ [])

-- one of the job's files is so
abbrev pub IsBadFile : Asked → Course → Type 0
IsBadFile asked run = (job : JobNames) × (asked ≡ Ok job) × HaveBadFile run.files run.files' (files_of job)

-- what the job's files hold is told, none is refused, together they say this, and no count of their names rose
pub record AreGoodFiles (asked : Asked) (run : Course) (job : JobNames) (said : Said) : Type 0 where
  pub asked_for : asked ≡ Ok job
  pub accepted : HaveSaid (IsTold run.files.holds) (files_of job) said
  pub stand : FilesStand run.files run.files' (files_of job)

-- what a run promises that was asked for this, went so, was given this disk and left it so, and ended with this status
pub record Keeps {D : Type 0} (asked : Asked) (run : Course) (disk disk' : D) (status : ℕ) : Type 0 where
  -- 0: each file of the job was read once, and the sink took the output
  pub done : status ≡ 0 → (output : List ℕ) × IsOutput asked run.disk run.files run.files' output × Took run output
  -- 1: the words ask for no job, no file was read, and the sink took the line that says why
  pub words : status ≡ 1 → (why : WordsFault) × Complains asked run (complaint.Words why)
  -- 2: a file is refused, the first in reading order and the last that was read, and the sink took its line
  pub refused : status ≡ 2 → (file : Input) × (why : Refusal) × Complains asked run (complaint.Refused file why)
  -- 3: reading a file failed, the last that was read, none before it is refused, and the sink took its line
  pub fault : status ≡ 3 → (file : Input) × Complains asked run (complaint.Fault file)
  -- 4: the sink failed, once, and took a beginning of a text that was due, and not all of it
  pub sink : status ≡ 4 → run.sink'.faults ≡ run.sink.faults + 1
  pub cut : status ≡ 4 → (text : List ℕ) × IsDue asked run text × TookPart run.sink.taken run.sink'.taken text
  -- 5: the sink took nothing, or a beginning of a text that was due
  pub partial : status ≡ 5 → Took run [] ⊎ ((text : List ℕ) × IsDue asked run text
      × TookPrefix run.sink.taken run.sink'.taken text)
  -- 6: no file is refused and each was read once, but the certificate, the journal or the store isn't right, and the
  -- sink took the line that says where
  pub wrong : status ≡ 6 → (found : Finding) × Complains asked run (complaint.Wrong found)
  -- 7: the words have a store, no file is refused and each was read once, but the disk failed, and the sink took the
  -- line that says so
  pub store : status ≡ 7 → Complains asked run complaint.Store
  -- there is no other status
  pub most : status ≤ 7
  -- words that ask for no job end with 1
  pub bad_words : (why : WordsFault) → asked ≡ Err why → SinkStands run → EndsWith 1 status
  -- a refused file ends with 2
  pub bad_file : IsBadFile asked run → SinkStands run → EndsWith 2 status
  -- a certificate, a journal or a store that isn't right ends with 6
  pub bad_content : (job : JobNames) (said : Said) (found : Finding) → AreGoodFiles asked run job said
      → StoreStands run job
      → IsWrong run.disk.old.holds job said found → SinkStands run → EndsWith 6 status
  -- and else the run ends with 0
  pub complete : (job : JobNames) (said : Said) → AreGoodFiles asked run job said → StoreStands run job
      → IsRight run.disk.old.holds job said → SinkStands run
      → EndsWith 0 status
  -- however the run ends, each image of the store that a crash leaves at some moment of it has the records that there
  -- were, then a beginning of the new entries of a history that answers the desks, and all that were acknowledged
  pub stored : (job : JobNames) → asked ≡ Ok job → UsesStore job
      → AreSomeKept run.disk (AreNewIn asked run.disk.old.holds run.files run.files')
  -- without a store the disk is what it was, and where the words or a file are complained of
  pub untouched : (AsksForStore asked → ⊥) → disk' ≡ disk
  pub unopened : 1 ≤ status → status ≤ 3 → disk' ≡ disk
  -- each name holds what it held, no count falls, and there are no more reads than the job has files
  pub same : SameBytes run.files.holds run.files'.holds
  pub counts : NoneFalls run.files.faults run.files'.faults
  pub reads : ReadsWithin run.files run.files' (most_reads asked)
  -- but for 4 the sink's count of faults stands
  pub sink_count : (status ≡ 4 → ⊥) → SinkStands run
  -- but for 4 and 5 no write was answered with an error
  pub sound : (status ≡ 4 → ⊥) → (status ≡ 5 → ⊥) → run.sink'.stopped ≡ run.sink.stopped
  -- nothing was written after a write that was answered with an error, where none had been before the run
  pub no_more : run.sink.stopped ≡ false → run.sink'.late ≡ run.sink.late
