-- What comes of the files, one after the other, why a job stops, and how a run ends. The code is held against these;
-- what they come to is in Promise.
use Rattle.std.specs.Prelude.{◌≡◌, ◌⊎◌, ℕ, ◌+◌, ◌<◌, ⊤, Bool, true, false, List, [], ◌∷◌, ◌++◌, codes, map, None}
use Rattle.std.specs.Prelude.{Option, Vec, Result, Ok, Err, if◌then◌else◌}
use Rattle.std.specs.declared.alloc.Global.{Global}
use Rattle.wp_cert.specs.declared.tree.CertFault.{CertFault}
use Rattle.wp_cert.specs.declared.tree.CertWhy.{CertWhy}
use Rattle.wp_cert.specs.declared.tree.CertWhy.TheVariants as cert_why
use Rattle.wp_journal.specs.Journals.{Shows}
use Rattle.wp_journal.specs.declared.verdict.AuditFault.{AuditFault}
use Rattle.wp_layout.specs.declared.fault.LayoutFault.{LayoutFault}
use Rattle.wp_layout.specs.declared.fault.LayoutFault.TheVariants as layout_fault
use Rattle.wp_make.specs.Texts.{made_texts}
use Rattle.wp_model.specs.History.{Script}
use Rattle.wp_model.specs.Opening.{Opening}
use Rattle.wp_model.specs.Warehouse.{Layout}
use Rattle.wp_outside.specs.Outside.{FilesTold, Grows, SinkTold, TookPart, TookPrefix}
use Rattle.wp_outside.specs.declared.sink.SinkFault.{SinkFault}
use Rattle.wp_outside.specs.declared.sink.SinkFault.TheVariants as sink_fault
use Rattle.wp_top.specs.Ends.{Asked, Causes, HasCause, IsOutput, complaint_line, no_cause, of_run}
use Rattle.wp_store.specs.declared.faults.OpenFault.{OpenFault}
use Rattle.wp_store.specs.declared.faults.OpenFault.TheVariants as open_fault
use Rattle.wp_top.specs.Runs.{IsRefusedCertificate}
use Rattle.wp_top.specs.Stores.{AreRefused, DiskCourse, HasFailed, IsRefusedStore}
use Rattle.wp_top.specs.Summaries.{made_files, size_of}
use Rattle.wp_top.specs.Texts.{File, HaveSaid, IsHeld, IsTold, ReadFile, Said, Say, file_of, files_of, nothing_said}
use Rattle.wp_top.specs.Texts.{opening_with, text_in}
use Rattle.wp_top.specs.declared.complaint.Complaint.{Complaint}
use Rattle.wp_top.specs.declared.complaint.Complaint.TheVariants as complaint
use Rattle.wp_top.specs.declared.complaint.Finding.TheVariants as finding
use Rattle.wp_top.specs.declared.complaint.StoreFinding.{StoreFinding}
use Rattle.wp_top.specs.declared.complaint.StoreFinding.TheVariants as store_finding
use Rattle.wp_top.specs.declared.complaint.Stop.{Stop}
use Rattle.wp_top.specs.declared.complaint.Stop.TheVariants as stop
use Rattle.wp_top.specs.declared.ending.Ending.{Ending}
use Rattle.wp_top.specs.declared.ending.Ending.TheVariants as ending
use Rattle.wp_top.specs.declared.input.Input.{Input}
use Rattle.wp_top.specs.declared.input.Input.TheVariants as input
use Rattle.wp_top.specs.declared.input.Refusal.{Refusal}
use Rattle.wp_top.specs.declared.status.Status.{Status}
use Rattle.wp_top.specs.declared.status.Status.TheVariants as status
use Rattle.wp_words.specs.Reading.{wants_memory}
use Rattle.wp_words.specs.Words.{MakeNumbers, PlanNames, plan}
use Rattle.wp_words.specs.declared.fault.WordsFault.{WordsFault}

-- the text of a file that isn't too long
pub record IsRead (holds : List ℕ → Option (List ℕ)) (name text : List ℕ) : Type 0 where
  pub held : IsHeld holds name text
  pub short : text_in text ≡ Ok text

-- what came of one file: what its text says
abbrev pub IsSaid : {A : Type 0} → (List ℕ → Result A Refusal) → (List ℕ → Option (List ℕ)) → List ℕ → A → Type 0
IsSaid says holds name said = (text : List ℕ) × IsHeld holds name text × (says text ≡ Ok said)

-- a stop has its cause among these, or memory ran out
abbrev pub StopsFor : Causes → Stop → Type 0
StopsFor causes (stop.Complaint why) = HasCause causes why
StopsFor causes stop.Memory = ⊤

-- why nothing came of one file, in one read: its text is refused, or its count of faults rose
abbrev pub of_file : {A : Type 0} → (List ℕ → Result A Refusal) → FilesTold → FilesTold → List ℕ → Input → Causes
of_file says old new name file = record no_cause {
  refused = λ kind why. (kind ≡ file) × (new.reads ≡ old.reads + 1) × (text : List ℕ) × IsHeld old.holds name text
      × (says text ≡ Err why);
  fault = λ kind. (kind ≡ file) × (new.reads ≡ old.reads + 1) × (old.faults name < new.faults name);
}

-- why a journal stops a run: it isn't right
abbrev pub of_journal : Opening → List ℕ → Causes
of_journal opening text = record no_cause {
  wrong = λ found. (fault : AuditFault) × (found ≡ finding.Journal fault) × Shows opening text (Err fault);
}

-- why a store does, before desks that have so many commands: the disk failed, or what the store has is refused
abbrev pub of_store : DiskCourse → Opening → ℕ → Causes
of_store disk opening commands = record no_cause {
  wrong = λ found. (refused : StoreFinding) × (found ≡ finding.Store refused)
      × IsRefusedStore disk.old.holds opening commands refused;
  store = HasFailed disk;
}

-- why its records do
abbrev pub of_records : Opening → List (List ℕ) → ℕ → Causes
of_records opening bodies commands = record no_cause {
  wrong = λ found. (refused : StoreFinding) × (found ≡ finding.Store refused)
      × AreRefused opening bodies commands refused;
}

-- why adding entries to a store does
abbrev pub of_appends : DiskCourse → Causes
of_appends disk = record no_cause { store = HasFailed disk }

-- what a failed disk stops a run with
abbrev pub store_stop : Stop
store_stop = stop.Complaint complaint.Store

-- what opening a store stops a run with
abbrev pub stop_at_open : OpenFault → Stop
stop_at_open open_fault.Disk = store_stop
stop_at_open open_fault.TooLong = stop.Complaint (complaint.Wrong (finding.Store store_finding.TooLong))
stop_at_open open_fault.Memory = stop.Memory

-- why a certificate does
abbrev pub of_certificate : Layout → List ℕ → Causes
of_certificate layout text = record no_cause {
  wrong = λ found. (fault : CertFault) × (found ≡ finding.Certificate fault) × IsRefusedCertificate layout text fault;
}

-- why a file stops a run that is held against those before it: nothing came of it, or its text isn't right
abbrev pub StopsAt : (List ℕ → Causes) → FilesTold → FilesTold → List ℕ → Input → Stop → Type 0
StopsAt of_text old new name file why = StopsFor (of_file text_in old new name file) why
    ⊎ ((text : List ℕ) × IsRead old.holds name text × (new.reads ≡ old.reads + 1) × StopsFor (of_text text) why)

-- a file that is held against those before it has a right text
pub record HasRightText (holds : List ℕ → Option (List ℕ)) (name : List ℕ) (IsRight : List ℕ → Type 0) : Type 0 where
  pub text : List ℕ
  pub read : IsRead holds name text
  pub shows : IsRight text

-- there was no memory for what a layout file says
abbrev pub lacks_memory : LayoutFault → Bool
lacks_memory layout_fault.Memory = true
lacks_memory other = false

-- why words stop a run
abbrev pub stop_at_words : WordsFault → Stop
stop_at_words why = if wants_memory why then stop.Memory else stop.Complaint (complaint.Words why)

-- the files that say an opening
abbrev pub opening_files : List ℕ → List ℕ → List ℕ → List File
opening_files layout stock orders = file_of input.Layout layout ∷ file_of input.Stock stock
    ∷ file_of input.Orders orders ∷ []

-- what they say
abbrev pub opening_said : Layout → Opening → Said
opening_said layout opening = record nothing_said { layout = layout; opening = opening }

-- what they say of an opening whose carts hold units, which no file says
abbrev pub tables_said : Layout → Opening → Said
tables_said layout opening = opening_said layout (opening_with opening None)

-- what they say with the scripts of a desk file
abbrev pub day_said : Layout → Opening → List Script → Said
day_said layout opening scripts = record (opening_said layout opening) { scripts = scripts }

-- the files of a made day, by the names by which they are read
abbrev pub day_files : List File
day_files = opening_files (codes "layout") (codes "stock") (codes "orders") ++ file_of input.Desks (codes "desks") ∷ []

-- the texts of files, each beside the name of its file
abbrev pub beside_names : List ReadFile → List (List ℕ × List ℕ)
beside_names files = map (λ read. (read.file.name, read.text)) files

-- this is the day that the files say which are made of these numbers
abbrev pub IsMadeDay : MakeNumbers → Said → Type 0
IsMadeDay numbers day = Say (made_files (made_texts numbers.number (size_of numbers))) day

-- the files of a made day are told, none is refused, and together they say the day that is made of these numbers
pub record HoldMadeDay (holds : List ℕ → Option (List ℕ)) (numbers : MakeNumbers) : Type 0 where
  pub day : Said
  pub made : IsMadeDay numbers day
  pub told : HaveSaid (IsTold holds) day_files day

-- the four files of a plan were read once each, between these two states of files, none is refused, and together they
-- say this
pub record IsReadDay (names : PlanNames) (layout : Layout) (opening : Opening) (scripts : List Script)
    (old new : FilesTold) : Type 0 where
  pub said : HaveSaid (IsHeld old.holds) (files_of (plan names)) (day_said layout (opening_with opening None) scripts)
  pub units : opening.units ≡ names.units
  pub all : new.reads ≡ old.reads + 4

-- there was no memory for the check of a certificate
abbrev pub is_memory : CertWhy → Bool
is_memory cert_why.Memory = true
is_memory other = false

-- why the fault of a certificate stops a run
abbrev pub stop_at_certificate : CertFault → Stop
stop_at_certificate fault = if is_memory fault.why then stop.Memory
    else stop.Complaint (complaint.Wrong (finding.Certificate fault))

-- how a run ends, where its text is taken: it gives an output, or complains
pub data End : Type 0 where
  gives : List ℕ → End
  complains : Complaint → End

-- the end that is an ending of the code
abbrev pub end_of : Ending → End
end_of (ending.Done text) = gives text.items
end_of (ending.Complaint why) = complains why

-- the ending of an output, or of a stop
abbrev pub IsEndOf : Result (Vec ℕ Global) Stop → Ending → Type 0
IsEndOf (Ok text) end = end ≡ ending.Done text
IsEndOf (Err (stop.Complaint why)) end = end ≡ ending.Complaint why
IsEndOf (Err stop.Memory) end = ⊥

-- the text of an end
abbrev pub text_of : End → List ℕ
text_of (gives text) = text
text_of (complains why) = complaint_line why

-- the status of an end whose text was taken
abbrev pub status_of : End → Status
status_of (gives text) = status.Done
status_of (complains (complaint.Words why)) = status.BadWords
status_of (complains (complaint.Refused file why)) = status.Refused
status_of (complains (complaint.Fault file)) = status.ReadFault
status_of (complains (complaint.Wrong found)) = status.Wrong
status_of (complains complaint.Store) = status.StoreFault

-- the number of a status
abbrev pub status_number : Status → ℕ
status_number status.Done = 0
status_number status.BadWords = 1
status_number status.Refused = 2
status_number status.ReadFault = 3
status_number status.WriteFault = 4
status_number status.OutOfMemory = 5
status_number status.Wrong = 6
status_number status.StoreFault = 7

-- the status is that of a complaint of words, of a refused file or of one that couldn't be read
abbrev pub IsOfInput : Status → Type 0
IsOfInput status.BadWords = ⊤
IsOfInput status.Refused = ⊤
IsOfInput status.ReadFault = ⊤
IsOfInput other = ⊥

-- the status of a run whose output was written with this result
abbrev pub status_when : Result Unit SinkFault → Status
status_when (Ok done) = status.Done
status_when (Err sink_fault.Failed) = status.WriteFault
status_when (Err sink_fault.Memory) = status.OutOfMemory

-- an end has its cause
abbrev pub IsEnding : Asked → DiskCourse → FilesTold → FilesTold → End → Type 0
IsEnding asked disk old new (gives text) = IsOutput asked disk old new text
IsEnding asked disk old new (complains why) = HasCause (of_run asked disk old new) why

-- the text of an end was taken, or the sink failed, once, after a part of it, or memory ran out
abbrev pub Finishes : End → SinkTold → SinkTold → Status → Type 0
Finishes end old new ended =
    ((ended ≡ status_of end) × Grows old.taken new.taken (text_of end) × (new.faults ≡ old.faults)
    × (new.stopped ≡ old.stopped))
    ⊎ ((ended ≡ status.WriteFault) × (new.faults ≡ old.faults + 1) × TookPart old.taken new.taken (text_of end))
    ⊎ ((ended ≡ status.OutOfMemory) × (new.faults ≡ old.faults) × TookPrefix old.taken new.taken (text_of end))

-- a job that gave this output, or stopped, has ended so: its ending finished, or memory ran out before there was one
abbrev pub FinishesJob : Result (Vec ℕ Global) Stop → SinkTold → SinkTold → Status → Type 0
FinishesJob output sink sink' ended =
    ((end : Ending) × IsEndOf output end × Finishes (end_of end) sink sink' ended)
    ⊎ ((ended ≡ status.OutOfMemory) × (sink' ≡ sink))

-- a run that was asked for this has ended so: some end of it has its cause and finished, or memory ran out before there
-- was one
abbrev pub HasEnded : Asked → DiskCourse → FilesTold → FilesTold → SinkTold → SinkTold → Status → Type 0
HasEnded asked disk old new sink sink' ended =
    ((end : End) × IsEnding asked disk old new end × Finishes end sink sink' ended)
    ⊎ ((ended ≡ status.OutOfMemory) × (sink' ≡ sink))
