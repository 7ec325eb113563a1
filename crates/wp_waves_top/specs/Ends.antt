-- How a run of `waves` ends.
use Rattle.std.specs.Prelude.{◌≡◌, ◌⊎◌, ℕ, ◌+◌, List, Result, Ok, Err}
use Rattle.wp_outside.specs.Outside.{FilesTold, Grows, SinkTold, TookPart, TookPrefix}
use Rattle.wp_top.specs.declared.complaint.Complaint.TheVariants as shared
use Rattle.wp_top.specs.declared.status.Status.{Status}
use Rattle.wp_top.specs.declared.status.Status.TheVariants as status
use Rattle.wp_waves_top.specs.Runs.{IsOpenRisen, IsRefusedFile, IsRefusedOpen, IsRisenFile, IsWavesOutput}
use Rattle.wp_waves_top.specs.Runs.{IsWrongJournal, all_reads}
use Rattle.wp_waves_top.specs.Texts.{waves_complaint_line}
use Rattle.wp_waves_top.specs.declared.complaint.WavesComplaint.{WavesComplaint}
use Rattle.wp_waves_top.specs.declared.complaint.WavesComplaint.TheVariants as complaint
use Rattle.wp_waves_words.specs.Words.{WavesNames}
use Rattle.wp_words.specs.declared.fault.WordsFault.{WordsFault}

-- what is asked for: waves, or the words ask for none
abbrev pub Asked : Type 0
Asked = Result WavesNames WordsFault

-- this holds of the waves that are asked for
abbrev pub OfAsked : Asked → (WavesNames → Type 0) → Type 0
OfAsked asked Holds = (names : WavesNames) × (asked ≡ Ok names) × Holds names

-- a complaint has its cause: the words ask for no waves, and nothing was read; a file is refused, or couldn't be read,
-- the last that was read; or all were read, and the journal isn't right
abbrev pub IsCause : Asked → FilesTold → FilesTold → WavesComplaint → Type 0
IsCause asked old new (complaint.Shared (shared.Words why)) = (asked ≡ Err why) × (new.reads ≡ old.reads)
IsCause asked old new (complaint.Shared (shared.Refused kind why)) =
    OfAsked asked (λ names. IsRefusedFile names old new kind why)
IsCause asked old new (complaint.Shared (shared.Fault kind)) = OfAsked asked (λ names. IsRisenFile names old new kind)
IsCause asked old new (complaint.Shared (shared.Wrong found)) =
    OfAsked asked (λ names. IsWrongJournal names old new found)
IsCause asked old new (complaint.Shared shared.Store) = ⊥
IsCause asked old new (complaint.OpenRefused why) = OfAsked asked (λ names. IsRefusedOpen names old new why)
IsCause asked old new complaint.OpenFault = OfAsked asked (λ names. IsOpenRisen names old new)

-- the output of the waves that are asked for
abbrev pub IsOutput : Asked → FilesTold → FilesTold → List ℕ → Type 0
IsOutput asked old new output = OfAsked asked (λ names. IsWavesOutput names old new output)

-- how many reads waves take that are asked for
abbrev pub most_reads : Asked → ℕ
most_reads (Ok names) = all_reads names
most_reads (Err why) = 0

-- how a run ends, where its text is taken: it gives an output, or complains
pub data End : Type 0 where
  gives : List ℕ → End
  complains : WavesComplaint → End

-- an end has its cause
abbrev pub IsEnding : Asked → FilesTold → FilesTold → End → Type 0
IsEnding asked old new (gives text) = IsOutput asked old new text
IsEnding asked old new (complains why) = IsCause asked old new why

-- the text of an end
abbrev pub text_of : End → List ℕ
text_of (gives text) = text
text_of (complains why) = waves_complaint_line why

-- the status of an end whose text was taken
abbrev pub status_of : End → Status
status_of (gives text) = status.Done
status_of (complains (complaint.Shared (shared.Words why))) = status.BadWords
status_of (complains (complaint.Shared (shared.Refused kind why))) = status.Refused
status_of (complains (complaint.Shared (shared.Fault kind))) = status.ReadFault
status_of (complains (complaint.Shared (shared.Wrong found))) = status.Wrong
status_of (complains (complaint.Shared shared.Store)) = status.StoreFault
status_of (complains (complaint.OpenRefused why)) = status.Refused
status_of (complains complaint.OpenFault) = status.ReadFault

-- the text of an end was taken, or the sink failed, once, after a part of it, or memory ran out
abbrev pub Finishes : End → SinkTold → SinkTold → Status → Type 0
Finishes end old new ended =
    ((ended ≡ status_of end) × Grows old.taken new.taken (text_of end) × (new.faults ≡ old.faults)
    × (new.stopped ≡ old.stopped))
    ⊎ ((ended ≡ status.WriteFault) × (new.faults ≡ old.faults + 1) × TookPart old.taken new.taken (text_of end))
    ⊎ ((ended ≡ status.OutOfMemory) × (new.faults ≡ old.faults) × TookPrefix old.taken new.taken (text_of end))

-- a run that was asked for this has ended so: some end of it has its cause and finished, or memory ran out before there
-- was one
abbrev pub HasEnded : Asked → FilesTold → FilesTold → SinkTold → SinkTold → Status → Type 0
HasEnded asked old new sink sink' ended =
    ((end : End) × IsEnding asked old new end × Finishes end sink sink' ended)
    ⊎ ((ended ≡ status.OutOfMemory) × (sink' ≡ sink))
