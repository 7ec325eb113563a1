-- What the planner's start costs for waves that went out.
use Rattle.std.specs.Prelude.{ℕ, ⊤, List, [], ◌∷◌}
use Rattle.wp_cert.specs.Walks.{ArePutIntoBatches}
use Rattle.wp_lengths.specs.Batchings.{IsCost}
use Rattle.wp_lengths.specs.Waves.{WavePicks}
use Rattle.wp_machine.specs.declared.outcome.WaveHolds.{WaveHolds}
use Rattle.wp_model.specs.Opening.{Opening}
use Rattle.wp_model.specs.Warehouse.{Layout}
use Rattle.wp_planner.specs.Released.{IsWaveOf}

-- A start of a wave that went out: its orders pick where they hold units, they are put into batches within the capacity
-- and the cart, and these batches cost so much.
pub record IsStart (layout : Layout) (opening : Opening) (capacity : ℕ) (released : WaveHolds)
    (start : ℕ) : Type 0 where
  pub picks : WavePicks
  pub of_wave : IsWaveOf layout opening released picks
  pub batches : List (List ℕ)
  pub batching : ArePutIntoBatches picks capacity batches
  pub cost : IsCost picks batches start

-- the starts of waves that went out, one by one
abbrev pub AreStarts : Layout → Opening → ℕ → List WaveHolds → List ℕ → Type 0
AreStarts layout opening capacity [] [] = ⊤
AreStarts layout opening capacity [] (start ∷ starts) = ⊥
AreStarts layout opening capacity (released ∷ others) [] = ⊥
AreStarts layout opening capacity (released ∷ others) (start ∷ starts) =
    IsStart layout opening capacity released start × AreStarts layout opening capacity others starts
