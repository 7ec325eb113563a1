-- What a step of writing does, by what the sink tells before and after it.
use Rattle.std.specs.Prelude.{◌≡◌, ℕ, ◌+◌, false, List, ◌++◌}
use Rattle.wp_outside.specs.Outside.{Grows, SinkTold, TookPart, TookPrefix}
use Rattle.wp_outside.specs.declared.sink.SinkFault.{SinkFault}
use Rattle.wp_outside.specs.declared.sink.SinkFault.TheVariants.{Failed}

-- how many bytes are enough for a piece
abbrev pub piece_bytes : ℕ
piece_bytes = 65536

-- a step went well: what it wrote, and what waits after it, are what waited before it and its text
pub record Writes (old new : SinkTold) (waited waits text : List ℕ) : Type 0 where
  pub written : List ℕ
  pub all : written ++ waits ≡ waited ++ text
  pub took : Grows old.taken new.taken written
  pub faults : new.faults ≡ old.faults
  pub stopped : new.stopped ≡ old.stopped
  pub early : old.stopped ≡ false → new.late ≡ old.late

-- a step failed: the sink took a beginning of the text that was to be written, and not all of it where the sink itself
-- failed, which counts as one more fault of it
pub record Fails (fault : SinkFault) (old new : SinkTold) (text : List ℕ) : Type 0 where
  pub prefix : TookPrefix old.taken new.taken text
  pub part : fault ≡ Failed → TookPart old.taken new.taken text
  pub counted : fault ≡ Failed → new.faults ≡ old.faults + 1
  pub uncounted : (fault ≡ Failed → ⊥) → new.faults ≡ old.faults
  pub early : old.stopped ≡ false → new.late ≡ old.late
