-- What a run of `waves` promises.
use Rattle.std.specs.Prelude.{◌≡◌, ◌⊎◌, ℕ, ◌+◌, ◌≤◌, false, List, [], Ok, Err}
use Rattle.wp_journal.specs.declared.verdict.AuditFault.{AuditFault}
use Rattle.wp_outside.specs.Outside.{FilesTold, Grows, NoneFalls, SameBytes, SinkTold, TookPart, TookPrefix}
use Rattle.wp_top.specs.Ends.{ReadsWithin}
use Rattle.wp_top.specs.Promise.{EndsWith}
use Rattle.wp_top.specs.declared.complaint.Complaint.TheVariants as shared
use Rattle.wp_top.specs.declared.complaint.Finding.TheVariants as finding
use Rattle.wp_top.specs.declared.input.Input.{Input}
use Rattle.wp_top.specs.declared.input.Refusal.{Refusal}
use Rattle.wp_waves_top.specs.Ends.{Asked, IsCause, IsOutput, most_reads}
use Rattle.wp_waves_top.specs.Inputs.{AreGoodInputs, IsBadInput, IsFalseJournal}
use Rattle.wp_waves_top.specs.Texts.{waves_complaint_line}
use Rattle.wp_waves_top.specs.declared.complaint.OpenRefusal.{OpenRefusal}
use Rattle.wp_waves_top.specs.declared.complaint.WavesComplaint.{WavesComplaint}
use Rattle.wp_waves_top.specs.declared.complaint.WavesComplaint.TheVariants as complaint
use Rattle.wp_waves_words.specs.Words.{WavesNames}
use Rattle.wp_words.specs.declared.fault.WordsFault.{WordsFault}

-- what files and a sink tell before a run, and after it
pub record Course : Type 1 where
  pub files : FilesTold
  pub sink : SinkTold
  pub files' : FilesTold
  pub sink' : SinkTold

abbrev pub course : FilesTold → SinkTold → FilesTold → SinkTold → Course
course files sink files' sink' = record { files = files; sink = sink; files' = files'; sink' = sink' }

-- the sink took this text in the run
abbrev pub Took : Course → List ℕ → Type 0
Took run text = Grows run.sink.taken run.sink'.taken text

-- the sink took the line of a complaint that had its cause
abbrev pub Complains : Asked → Course → WavesComplaint → Type 0
Complains asked run why = IsCause asked run.files run.files' why × Took run (waves_complaint_line why)

-- a text that the run was due to write: its output, or the line of a complaint that had its cause
abbrev pub IsDue : Asked → Course → List ℕ → Type 0
IsDue asked run text = IsOutput asked run.files run.files' text
    ⊎ ((why : WavesComplaint) × IsCause asked run.files run.files' why × (text ≡ waves_complaint_line why))

-- the sink's count of faults stands
abbrev pub SinkStands : Course → Type 0
SinkStands run = run.sink'.faults ≡ run.sink.faults

-- what a run promises that was asked for these waves, went so, and ended with this status
pub record Keeps (asked : Asked) (run : Course) (status : ℕ) : Type 0 where
  -- 0: each file was read once, none is refused, the journal is right, and the sink took the output: the open orders
  -- that are sent out after it, in right waves, each of whose commands is done, and those that are left
  pub done : status ≡ 0 → (output : List ℕ) × IsOutput asked run.files run.files' output × Took run output
  -- 1: the words ask for no waves, no file was read, and the sink took the line that says why
  pub words : status ≡ 1 → (why : WordsFault) × Complains asked run (complaint.Shared (shared.Words why))
  -- 2: a file is refused, the first in reading order and the last that was read, and the sink took its line
  pub refused : status ≡ 2 → ((file : Input) × (why : Refusal)
      × Complains asked run (complaint.Shared (shared.Refused file why)))
      ⊎ ((why : OpenRefusal) × Complains asked run (complaint.OpenRefused why))
  -- 3: reading a file failed, the last that was read, none before it is refused, and the sink took its line
  pub fault : status ≡ 3 → ((file : Input) × Complains asked run (complaint.Shared (shared.Fault file)))
      ⊎ Complains asked run complaint.OpenFault
  -- 4: the sink failed, once, and took a beginning of a text that was due, and not all of it
  pub sink : status ≡ 4 → run.sink'.faults ≡ run.sink.faults + 1
  pub cut : status ≡ 4 → (text : List ℕ) × IsDue asked run text × TookPart run.sink.taken run.sink'.taken text
  -- 5: the sink took nothing, or a beginning of a text that was due
  pub partial : status ≡ 5 → Took run [] ⊎ ((text : List ℕ) × IsDue asked run text
      × TookPrefix run.sink.taken run.sink'.taken text)
  -- 6: each file was read once and none is refused, but the journal isn't right, and the sink took the line that says
  -- where
  pub wrong : status ≡ 6 → (fault : AuditFault)
      × Complains asked run (complaint.Shared (shared.Wrong (finding.Journal fault)))
  -- there is no other status
  pub most : status ≤ 6
  -- words that ask for no waves end with 1
  pub bad_words : (why : WordsFault) → asked ≡ Err why → SinkStands run → EndsWith 1 status
  -- a refused file ends with 2
  pub bad_file : (names : WavesNames) → asked ≡ Ok names → IsBadInput run.files run.files' names → SinkStands run
      → EndsWith 2 status
  -- a journal that isn't right ends with 6
  pub bad_content : (names : WavesNames) → asked ≡ Ok names → IsFalseJournal run.files run.files' names
      → SinkStands run → EndsWith 6 status
  -- and else the run ends with 0
  pub complete : (names : WavesNames) → asked ≡ Ok names → AreGoodInputs run.files run.files' names
      → SinkStands run → EndsWith 0 status
  -- each name holds what it held, no count falls, and there are no more reads than the words name files
  pub same : SameBytes run.files.holds run.files'.holds
  pub counts : NoneFalls run.files.faults run.files'.faults
  pub reads : ReadsWithin run.files run.files' (most_reads asked)
  -- but for 4 the sink's count of faults stands
  pub sink_count : (status ≡ 4 → ⊥) → SinkStands run
  -- but for 4 and 5 no write was answered with an error
  pub sound : (status ≡ 4 → ⊥) → (status ≡ 5 → ⊥) → run.sink'.stopped ≡ run.sink.stopped
  -- nothing was written after a write that was answered with an error, where none had been before the run
  pub no_more : run.sink.stopped ≡ false → run.sink'.late ≡ run.sink.late
