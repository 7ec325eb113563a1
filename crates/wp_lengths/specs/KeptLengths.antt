-- Lengths that a wave keeps.
use Rattle.std.specs.Prelude.{◌≡◌, List, All, Contains, ◌<◌, ◌^◌, ◌↔◌}
use Rattle.wp_model.specs.declared.point.Point.{Point}
use Rattle.wp_lengths.specs.declared.lengths.Length.{Length}
use Rattle.wp_lengths.specs.declared.lengths.PickedBatch.{PickedBatch}
use Rattle.wp_lengths.specs.Lengths.{IsLengthOf, batch_picks}
use Rattle.wp_lengths.specs.Waves.{WavePicks}

-- a length that is kept is that of its batch, and below 2 ^ 28
pub record IsKeptLength (wave : WavePicks) (kept : Length) : Type 0 where
  pub is : IsLengthOf wave kept.batch kept.length
  pub small : kept.length < 2 ^ 28

-- so is each
abbrev pub HaveLengths : WavePicks → List Length → Type 0
HaveLengths wave lengths = All (IsKeptLength wave) lengths

-- the slots of a batch are those at which some order of it picks
pub record IsPicked (wave : WavePicks) (picked : PickedBatch) : Type 0 where
  pub layout : picked.union.now.layout ≡ wave.layout
  pub points : (p : Point) → Contains picked.union.now.points p ↔ Contains (batch_picks wave picked.batch) p
