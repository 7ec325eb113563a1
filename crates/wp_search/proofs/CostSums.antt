-- Costs, batch by batch.
use Rattle.std.proofs.Common.{ℕ, ◌+◌, ◌<◌, List, [], ◌∷◌, ◌++◌, length, take, arith, refl, sym, subst}
use Rattle.std.proofs.lemmas.List.{take_more}
use Rattle.wp_lengths.specs.Batchings.{IsCost, batch_at}
use Rattle.wp_lengths.specs.Lengths.{IsLengthOf}
use Rattle.wp_lengths.specs.Waves.{WavePicks}

cost_push : (wave : WavePicks) (batches : List (List ℕ)) (batch : List ℕ) (cost more : ℕ) → IsCost wave batches cost → IsLengthOf wave batch more
    → IsCost wave (batches ++ batch ∷ []) (cost + more)
cost_push wave [] batch cost more is long = (more, 0, long, refl, omega (arith, is))
cost_push wave (first ∷ rest) batch cost more is long = (
  is.0,
  is.1 + more,
  is.2,
  cost_push wave rest batch is.1 more is.3 long,
  omega (arith, is.4),
)

-- the first batches and one more cost as much more as that one is long
pub cost_more : (wave : WavePicks) (batches : List (List ℕ)) (place cost more : ℕ) → place < length batches → IsCost wave (take place batches) cost
    → IsLengthOf wave (batch_at batches place) more → IsCost wave (take (place + 1) batches) (cost + more)
cost_more wave batches place cost more within is long =
    subst (λ (bs : List (List ℕ)). IsCost wave bs (cost + more)) (sym (take_more batches place [] within))
    (cost_push wave (take place batches) (batch_at batches place) cost more is long)
