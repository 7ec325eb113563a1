-- How runs of `waves` end.
use Rattle.std.proofs.Common.{◌≡◌, sym, subst, inl, inr, Result, Ok, Err, ℕ}
use Rattle.std.specs.Prelude.{IfErr, IfOk, OnErr, Vec}
use Rattle.std.specs.declared.alloc.Global.{Global}
use Rattle.wp_model.specs.declared.memory.Memory.{Memory}
use Rattle.wp_outside.specs.Outside.{FilesTold, SinkTold}
use Rattle.wp_top.specs.declared.status.Status.{Status}
use Rattle.wp_top.specs.declared.status.Status.TheVariants as status
use Rattle.wp_waves_top.specs.Ends.{Asked, Finishes, HasEnded, IsEnding, IsOutput}
use Rattle.wp_waves_top.specs.Stops.{FinishesWaves, IsEndOf, StopsFor, end_of}
use Rattle.wp_waves_top.specs.declared.complaint.WavesStop.{WavesStop}
use Rattle.wp_waves_top.specs.declared.complaint.WavesStop.TheVariants as stop
use Rattle.wp_waves_top.specs.declared.ending.Ending.{Ending}

-- the ending of an output, or of a stop, has its cause
caused : (asked : Asked) (old new : FilesTold) (output : Result (Vec ℕ Global) WavesStop) (end : Ending) → IsEndOf output end
    → IfOk output (λ text. IsOutput asked old new text.items) → IfErr output (StopsFor asked old new) → IsEnding asked old new (end_of end)
caused asked old new (Ok text) end is given stops = subst (λ (e : Ending). IsEnding asked old new (end_of e)) (sym is) given
caused asked old new (Err (stop.Complaint why)) end is given stops = subst (λ (e : Ending). IsEnding asked old new (end_of e)) (sym is) stops
caused asked old new (Err stop.Memory) end is given stops = absurd is

-- waves whose ending was made finish with it
pub waves_finish : (sink sink' : SinkTold) (output : Result (Vec ℕ Global) WavesStop) (made : Result Ending Memory) (ended : Status)
    → IfOk made (IsEndOf output) → IfOk made (λ e. Finishes (end_of e) sink sink' ended) → OnErr made ((ended ≡ status.OutOfMemory) × (sink' ≡ sink))
    → FinishesWaves output sink sink' ended
waves_finish sink sink' output (Ok end) ended is finishes nothing = inl (end, is, finishes)
waves_finish sink sink' output (Err memory) ended is finishes nothing = inr nothing

-- a run ends with the output of waves, or with why they stopped
pub waves_ended : (asked : Asked) (old new : FilesTold) (sink sink' : SinkTold) (output : Result (Vec ℕ Global) WavesStop) (ended : Status)
    → FinishesWaves output sink sink' ended → IfOk output (λ text. IsOutput asked old new text.items) → IfErr output (StopsFor asked old new)
    → HasEnded asked old new sink sink' ended
waves_ended asked old new sink sink' output ended (inl (end, is, finishes)) given stops =
    inl (end_of end, caused asked old new output end is given stops, finishes)
waves_ended asked old new sink sink' output ended (inr nothing) given stops = inr nothing
