-- How runs end.
use Rattle.std.proofs.Common.{◌≡◌, ◌≤◌, arith, refl, sym, subst, ℕ, inl, inr, ◌⊎◌, List, [], Result, Ok, Err, false}
use Rattle.std.specs.Prelude.{IfErr, IfOk, OnErr, OnOk, Vec}
use Rattle.std.specs.declared.alloc.Global.{Global}
use Rattle.wp_model.specs.Opening.{Opening}
use Rattle.wp_model.specs.declared.memory.Memory.{Memory}
use Rattle.wp_outside.specs.Outside.{FilesTold, SinkTold}
use Rattle.wp_outside.specs.declared.sink.SinkFault.{SinkFault}
use Rattle.wp_outside.specs.declared.sink.SinkFault.TheVariants as sink_fault
use Rattle.wp_outside.proofs.Steps.{Writes-whole}
use Rattle.wp_outside.specs.Writing.{Fails, Writes}
use Rattle.wp_top.specs.Ends.{Asked, IsOutput, of_run}
use Rattle.wp_top.specs.Stops.{Finishes, FinishesJob, HasEnded, IsEndOf, IsEnding, IsOfInput, StopsFor, end_of, gives, status_number, of_store, status_of}
use Rattle.wp_top.specs.Stops.{status_when}
use Rattle.wp_top.specs.Stores.{DiskCourse}
use Rattle.wp_top.specs.declared.complaint.Complaint.TheVariants as complaint
use Rattle.wp_top.specs.declared.complaint.Stop.{Stop}
use Rattle.wp_top.specs.declared.complaint.Stop.TheVariants as stop
use Rattle.wp_top.specs.declared.ending.Ending.{Ending}
use Rattle.wp_top.specs.declared.status.Status.{Status}
use Rattle.wp_top.specs.declared.status.Status.TheVariants as status

-- the ending of an output, or of a stop, has its cause
caused : (asked : Asked) (disk : DiskCourse) (old new : FilesTold) (output : Result (Vec ℕ Global) Stop) (end : Ending) → IsEndOf output end
    → IfOk output (λ text. IsOutput asked disk old new text.items) → IfErr output (StopsFor (of_run asked disk old new))
    → IsEnding asked disk old new (end_of end)
caused asked disk old new (Ok text) end is given stops = subst (λ (e : Ending). IsEnding asked disk old new (end_of e)) (sym is) given
caused asked disk old new (Err (stop.Complaint why)) end is given stops = subst (λ (e : Ending). IsEnding asked disk old new (end_of e)) (sym is) stops
caused asked disk old new (Err stop.Memory) end is given stops = absurd is

-- a job whose ending was made finishes with it
pub job_finishes : (sink sink' : SinkTold) (output : Result (Vec ℕ Global) Stop) (made : Result Ending Memory) (ended : Status) → IfOk made (IsEndOf output)
    → IfOk made (λ e. Finishes (end_of e) sink sink' ended) → OnErr made ((ended ≡ status.OutOfMemory) × (sink' ≡ sink)) → FinishesJob output sink sink' ended
job_finishes sink sink' output (Ok end) ended is finishes nothing = inl (end, is, finishes)
job_finishes sink sink' output (Err memory) ended is finishes nothing = inr nothing

-- a run ends with the output of a job, or with why it stopped
pub job_ended : (asked : Asked) (disk : DiskCourse) (old new : FilesTold) (sink sink' : SinkTold) (output : Result (Vec ℕ Global) Stop) (ended : Status)
    → FinishesJob output sink sink' ended → IfOk output (λ text. IsOutput asked disk old new text.items)
    → IfErr output (StopsFor (of_run asked disk old new)) → HasEnded asked disk old new sink sink' ended
job_ended asked disk old new sink sink' output ended (inl (end, is, finishes)) given stops =
    inl (end_of end, caused asked disk old new output end is given stops, finishes)
job_ended asked disk old new sink sink' output ended (inr nothing) given stops = inr nothing

-- and with why a job stopped that gave nothing
pub stopped_ended : (asked : Asked) (disk : DiskCourse) (old new : FilesTold) (sink sink' : SinkTold) (why : Stop) (ended : Status)
    → FinishesJob (Err why) sink sink' ended → StopsFor (of_run asked disk old new) why → HasEnded asked disk old new sink sink' ended
stopped_ended asked disk old new sink sink' why ended finishes stops = job_ended asked disk old new sink sink' (Err why) ended finishes tt stops

-- a run whose output was written so
pub written_ended : (asked : Asked) (disk : DiskCourse) (old new : FilesTold) (sink sink' : SinkTold) (written : Result Unit SinkFault) (ended : Status)
    (IsText : List ℕ → Type 0) → ((text : List ℕ) → IsText text → IsOutput asked disk old new text) → ended ≡ status_when written
    → OnOk written ((text : List ℕ) × IsText text × Writes sink sink' [] [] text)
    → IfErr written (λ fault. ((text : List ℕ) × IsText text × Fails fault sink sink' text) ⊎ ((fault ≡ sink_fault.Memory) × (sink' ≡ sink)))
    → HasEnded asked disk old new sink sink' ended
written_ended asked disk old new sink sink' (Ok done) ended IsText comes is (text, said, writes) fails =
    inl (gives text, comes text said, inl (is, Writes-whole sink sink' text writes, writes.faults, writes.stopped))
written_ended asked disk old new sink sink' (Err sink_fault.Failed) ended IsText comes is writes (inl (text, said, fails)) =
    inl (gives text, comes text said, inr (inl (is, fails.counted refl, fails.part refl)))
written_ended asked disk old new sink sink' (Err sink_fault.Failed) ended IsText comes is writes (inr (none, same)) = absurd (cc none)
written_ended asked disk old new sink sink' (Err sink_fault.Memory) ended IsText comes is writes (inl (text, said, fails)) =
    inl (gives text, comes text said, inr (inr (is, fails.uncounted (λ failed. absurd (cc failed)), fails.prefix)))
written_ended asked disk old new sink sink' (Err sink_fault.Memory) ended IsText comes is writes (inr (none, same)) = inr (is, same)

-- a run whose output was written doesn't complain of its input
pub written_not_of_input : (written : Result Unit SinkFault) (ended : Status) → ended ≡ status_when written → IsOfInput ended → ⊥
written_not_of_input (Ok done) ended is of = subst IsOfInput is of
written_not_of_input (Err sink_fault.Failed) ended is of = subst IsOfInput is of
written_not_of_input (Err sink_fault.Memory) ended is of = subst IsOfInput is of

-- nor does one that finishes with an ending which doesn't
finished_not_of_input : (e : Ending) (sink sink' : SinkTold) (ended : Status) → (IsOfInput (status_of (end_of e)) → ⊥) → Finishes (end_of e) sink sink' ended
    → IsOfInput ended → ⊥
finished_not_of_input e sink sink' ended other (inl (is, took, counts, sound)) of = other (subst IsOfInput is of)
finished_not_of_input e sink sink' ended other (inr (inl (is, counts, part))) of = subst IsOfInput is of
finished_not_of_input e sink sink' ended other (inr (inr (is, counts, prefix))) of = subst IsOfInput is of

-- nor one that stops at its store
pub stopped_not_of_input : (disk : DiskCourse) (opening : Opening) (commands : ℕ) (sink sink' : SinkTold) (why : Stop) (ended : Status)
    → StopsFor (of_store disk opening commands) why → FinishesJob (Err why) sink sink' ended → IsOfInput ended → ⊥
stopped_not_of_input disk opening commands sink sink' (stop.Complaint (complaint.Words why)) ended stops finishes of = stops
stopped_not_of_input disk opening commands sink sink' (stop.Complaint (complaint.Refused f why)) ended stops finishes of = stops
stopped_not_of_input disk opening commands sink sink' (stop.Complaint (complaint.Fault f)) ended stops finishes of = stops
stopped_not_of_input disk opening commands sink sink' (stop.Complaint (complaint.Wrong found)) ended stops (inl (e, is, finishes)) of =
    finished_not_of_input e sink sink' ended (λ was. subst (λ (x : Ending). IsOfInput (status_of (end_of x))) is was) finishes of
stopped_not_of_input disk opening commands sink sink' (stop.Complaint (complaint.Wrong found)) ended stops (inr (is, same)) of = subst IsOfInput is of
stopped_not_of_input disk opening commands sink sink' (stop.Complaint complaint.Store) ended stops (inl (e, is, finishes)) of =
    finished_not_of_input e sink sink' ended (λ was. subst (λ (x : Ending). IsOfInput (status_of (end_of x))) is was) finishes of
stopped_not_of_input disk opening commands sink sink' (stop.Complaint complaint.Store) ended stops (inr (is, same)) of = subst IsOfInput is of
stopped_not_of_input disk opening commands sink sink' stop.Memory ended stops (inl (e, is, finishes)) of = is
stopped_not_of_input disk opening commands sink sink' stop.Memory ended stops (inr (is, same)) of = subst IsOfInput is of

-- a number from 1 to 3 is that of such a complaint
pub is_of_input : (ended : Status) → 1 ≤ status_number ended → status_number ended ≤ 3 → IsOfInput ended
is_of_input status.Done some few = absurd (omega (arith, some))
is_of_input status.BadWords some few = tt
is_of_input status.Refused some few = tt
is_of_input status.ReadFault some few = tt
is_of_input status.WriteFault some few = absurd (omega (arith, few))
is_of_input status.OutOfMemory some few = absurd (omega (arith, few))
is_of_input status.Wrong some few = absurd (omega (arith, few))
is_of_input status.StoreFault some few = absurd (omega (arith, few))

-- what is written of an output leaves a sink that wasn't stopped with no late write
pub written_early : (sink sink' : SinkTold) (written : Result Unit SinkFault) (IsText : List ℕ → Type 0)
    → OnOk written ((text : List ℕ) × IsText text × Writes sink sink' [] [] text)
    → IfErr written (λ fault. (text : List ℕ) × IsText text × Fails fault sink sink' text) → sink.stopped ≡ false → sink'.late ≡ sink.late
written_early sink sink' (Ok done) IsText (text, said, writes) fails sound = writes.early sound
written_early sink sink' (Err fault) IsText writes (text, said, fails) sound = fails.early sound
