-- What a visit knows of the lengths of the places on its way.
use Rattle.std.specs.Prelude.{ℕ, ◌^◌, ◌<◌, List, All}
use Rattle.wp_lengths.specs.Waves.{WavePicks}
use Rattle.wp_cert.specs.declared.known.KnownLength.{KnownLength}
use Rattle.wp_cert.specs.declared.known.KnownLengths.{KnownLengths}
use Rattle.wp_cert.specs.Visited.{IsNoLess}

-- the length of a batch is no less than a known number, which is below 2 ^ 28
pub record IsKnown (wave : WavePicks) (batch : List ℕ) (known : ℕ) : Type 0 where
  pub least : IsNoLess wave batch known
  pub small : known < 2 ^ 28

-- so is each that is kept
abbrev pub AreKnown : WavePicks → KnownLengths → Type 0
AreKnown wave known = All (λ (one : KnownLength). IsKnown wave one.batch one.least) known.kept
