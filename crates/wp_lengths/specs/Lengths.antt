-- The length of a batch, and what a list of batches costs.
use Rattle.std.specs.Prelude.{ℕ, List}
use Rattle.std.specs.List.{flat_map}
use Rattle.wp_model.specs.declared.point.Point.{Point}
use Rattle.wp_model.specs.Tours.{IsShortest}
use Rattle.wp_lengths.specs.Waves.{WavePicks, picks_of}

-- the slots at which some order of a batch picks, order by order
abbrev pub batch_picks : WavePicks → List ℕ → List Point
batch_picks wave batch = flat_map (picks_of wave) batch

-- the length of a shortest tour past all that the orders of a batch pick
abbrev pub IsLengthOf : WavePicks → List ℕ → ℕ → Type 0
IsLengthOf wave batch total = IsShortest wave.layout (batch_picks wave batch) total
