-- Why waves stop before their output.
use Rattle.std.specs.Prelude.{◌≡◌, ◌⊎◌, ◌+◌, ◌<◌, ⊤, ℕ, List, Option, Some, None, Vec, Result, Ok, Err, if◌then◌else◌}
use Rattle.std.specs.declared.alloc.Global.{Global}
use Rattle.wp_model.specs.History.{History}
use Rattle.wp_model.specs.Opening.{Opening, Order}
use Rattle.wp_model.specs.Warehouse.{Layout}
use Rattle.wp_outside.specs.Outside.{FilesTold, NoneFalls, SameBytes, SinkTold}
use Rattle.wp_top.specs.Stops.{StopsAt, of_journal}
use Rattle.wp_top.specs.Texts.{IsHeld}
use Rattle.wp_top.specs.declared.complaint.Complaint.TheVariants as shared_complaint
use Rattle.wp_top.specs.declared.complaint.Stop.{Stop}
use Rattle.wp_top.specs.declared.complaint.Stop.TheVariants as shared
use Rattle.wp_top.specs.declared.input.Input.TheVariants as input
use Rattle.wp_top.specs.declared.status.Status.{Status}
use Rattle.wp_top.specs.declared.status.Status.TheVariants as status
use Rattle.wp_waves.specs.Faults.{wants_memory}
use Rattle.wp_waves.specs.declared.fault.OpenFileFault.{OpenFileFault}
use Rattle.wp_waves.specs.declared.open_orders.OpenOrder.{OpenOrder}
use Rattle.wp_waves_out.specs.SentOut.{AreSentOut}
use Rattle.wp_waves_top.specs.Ends.{Asked, End, Finishes, IsCause, complains, gives}
use Rattle.wp_waves_top.specs.Runs.{reads_if, wave_terms}
use Rattle.wp_waves_top.specs.Texts.{IsDayBefore, IsOpenFile, open_in, open_orders}
use Rattle.wp_waves_top.specs.declared.complaint.OpenRefusal.TheVariants as refusal
use Rattle.wp_waves_top.specs.declared.complaint.WavesComplaint.TheVariants as complaint
use Rattle.wp_waves_top.specs.declared.complaint.WavesStop.{WavesStop}
use Rattle.wp_waves_top.specs.declared.complaint.WavesStop.TheVariants as stop
use Rattle.wp_waves_top.specs.declared.ending.Ending.{Ending}
use Rattle.wp_waves_top.specs.declared.ending.Ending.TheVariants as ending
use Rattle.wp_waves_words.specs.Words.{WavesNames}

-- a stop of other runs, as waves have it
abbrev pub shared_stop : Stop → WavesStop
shared_stop (shared.Complaint why) = stop.Complaint (complaint.Shared why)
shared_stop shared.Memory = stop.Memory

-- a stop has its cause, or memory ran out
abbrev pub StopsFor : Asked → FilesTold → FilesTold → WavesStop → Type 0
StopsFor asked old new (stop.Complaint why) = IsCause asked old new why
StopsFor asked old new stop.Memory = ⊤

-- the end that is an ending of the code
abbrev pub end_of : Ending → End
end_of (ending.Done text) = gives text.items
end_of (ending.Complaint why) = complains why

-- the ending of an output, or of a stop
abbrev pub IsEndOf : Result (Vec ℕ Global) WavesStop → Ending → Type 0
IsEndOf (Ok text) end = end ≡ ending.Done text
IsEndOf (Err (stop.Complaint why)) end = end ≡ ending.Complaint why
IsEndOf (Err stop.Memory) end = ⊥

-- waves that gave this output, or stopped, have ended so: their ending finished, or memory ran out before there was one
abbrev pub FinishesWaves : Result (Vec ℕ Global) WavesStop → SinkTold → SinkTold → Status → Type 0
FinishesWaves output sink sink' ended =
    ((end : Ending) × IsEndOf output end × Finishes (end_of end) sink sink' ended)
    ⊎ ((ended ≡ status.OutOfMemory) × (sink' ≡ sink))

-- why waves stop at an open file whose text isn't there: it couldn't be read, or it has too many bytes
abbrev pub open_stop : Stop → WavesStop
open_stop (shared.Complaint (shared_complaint.Fault kind)) = stop.Complaint complaint.OpenFault
open_stop (shared.Complaint other) = stop.Complaint (complaint.OpenRefused refusal.TooLong)
open_stop shared.Memory = stop.Memory

-- and at a record that isn't read
abbrev pub row_stop : OpenFileFault → WavesStop
row_stop fault = if wants_memory fault.why then stop.Memory
    else stop.Complaint (complaint.OpenRefused (refusal.Row fault))

-- an open file stops waves: it is refused, or its count of faults rose, in one read; or memory ran out
abbrev pub StopsAtOpen : List Order → FilesTold → FilesTold → List ℕ → WavesStop → Type 0
StopsAtOpen orders old new name (stop.Complaint (complaint.OpenRefused why)) = (new.reads ≡ old.reads + 1)
    × (text : List ℕ) × IsHeld old.holds name text × (open_in orders text ≡ Err why)
StopsAtOpen orders old new name (stop.Complaint complaint.OpenFault) =
    (new.reads ≡ old.reads + 1) × (old.faults name < new.faults name)
StopsAtOpen orders old new name (stop.Complaint (complaint.Shared why)) = ⊥
StopsAtOpen orders old new name stop.Memory = ⊤

-- a journal stops waves: it is refused, its count of faults rose, or it isn't right, in one read; or memory ran out
abbrev pub StopsAtJournal : Opening → FilesTold → FilesTold → List ℕ → WavesStop → Type 0
StopsAtJournal opening old new name why = (shared : Stop) × (why ≡ shared_stop shared)
    × StopsAt (of_journal opening) old new name input.Journal shared

-- an optional file stops waves only where it is named
abbrev pub IfNamed : Option (List ℕ) → (List ℕ → WavesStop → Type 0) → WavesStop → Type 0
IfNamed (Some name) Stops why = Stops name why
IfNamed None Stops why = why ≡ stop.Memory

-- the output of waves, once the tables say a layout and an opening, between these two states of files
pub record IsOutputAfter (names : WavesNames) (layout : Layout) (opening : Opening) (mid new : FilesTold)
    (output : List ℕ) : Type 0 where
  pub listed : Option (List OpenOrder)
  pub open_file : IsOpenFile mid.holds opening.orders names.open_file listed
  pub history : History
  pub before : IsDayBefore mid.holds opening names.journal history
  pub sent : AreSentOut layout names.capacity history (wave_terms names) (open_orders history listed) output
  pub reads : new.reads ≡ mid.reads + (reads_if names.open_file + reads_if names.journal)

-- the open file was read, where it is named, between these two states of files, and says these open orders
pub record HasReadOpen (names : WavesNames) (opening : Opening) (mid last : FilesTold)
    (listed : Option (List OpenOrder)) : Type 0 where
  pub open_file : IsOpenFile mid.holds opening.orders names.open_file listed
  pub same : SameBytes mid.holds last.holds
  pub counts : NoneFalls mid.faults last.faults
  pub reads : last.reads ≡ mid.reads + reads_if names.open_file

-- why waves stop once the tables say an opening: at the open file, or at the journal behind it, or memory ran out
abbrev pub StopsAfter : WavesNames → Opening → FilesTold → FilesTold → WavesStop → Type 0
StopsAfter names opening mid new why =
    IfNamed names.open_file (StopsAtOpen opening.orders mid new) why
    ⊎ (((last : FilesTold) × (listed : Option (List OpenOrder)) × HasReadOpen names opening mid last listed
    × IfNamed names.journal (StopsAtJournal opening last new) why)
    ⊎ (why ≡ stop.Memory))
