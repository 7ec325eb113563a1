-- What a visit finds: batches of a wave with their lengths.
use Rattle.std.specs.Prelude.{◌≡◌, ◌<◌, List, All, length}
use Rattle.wp_lengths.specs.Lengths.{IsLengthOf}
use Rattle.wp_lengths.specs.Waves.{WavePicks}
use Rattle.wp_visit.specs.Places.{Task}
use Rattle.wp_node.specs.declared.finds.Find.{Find}

-- a find is a batch of the wave's orders with the length of a shortest tour of it
pub record IsFind (wave : WavePicks) (find : Find) : Type 0 where
  pub known : All (λ order. order < length wave.orders) find.batch
  pub long : IsLengthOf wave find.batch find.length

-- so is each of some finds
abbrev pub AreFinds : WavePicks → List Find → Type 0
AreFinds wave finds = All (IsFind wave) finds

-- what is visited has pairs for as many orders as the wave, and these are finds of the wave
pub record AreFindsOf (task : Task) (finds : List Find) : Type 0 where
  pub as_many : task.pairing.orders ≡ length task.wave.orders
  pub each : AreFinds task.wave finds
