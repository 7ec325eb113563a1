-- Fractional covers of a wave, what they cost, and duals of which no permitted batch has too much.
use Rattle.std.specs.List.{list_any}
use Rattle.std.specs.Prelude.{◌≡◌, ℕ, ◌<◌, ◌==◌, Bool, if◌then◌else◌, List, [], ◌∷◌, All, length, ℤ, pos, ◌+ℤ◌, ◌*ℤ◌}
use Rattle.std.specs.Prelude.{◌≤ℤ◌}
use Rattle.wp_pairs.specs.Permitted.{IsPermitted, Pairing}
use Rattle.wp_lengths.specs.Batchings.{no_pairs}
use Rattle.wp_lengths.specs.Lengths.{IsLengthOf}
use Rattle.wp_lengths.specs.Waves.{WavePicks}
use Rattle.wp_master.specs.Bases.{total_below}
use Rattle.wp_master.specs.Pairs.{AreNumbers, number_at}

-- the pairs of a wave for a capacity: of no two orders it is decided whether they go together
abbrev pub pairs_of : WavePicks → ℕ → Pairing
pairs_of wave capacity = no_pairs wave capacity

-- whether a batch has an order
abbrev pub has : List ℕ → ℕ → Bool
has batch order = list_any (λ (held : ℕ). held == order) batch

-- the sum of the weights of the batches that have an order
abbrev pub weight_with : List (List ℕ) → List ℤ → ℕ → ℤ
weight_with [] weights order = pos 0
weight_with (batch ∷ batches) [] order = pos 0
weight_with (batch ∷ batches) (weight ∷ weights) order
    = (if has batch order then weight else pos 0) +ℤ weight_with batches weights order

-- the shortest lengths of batches, each times its weight, sum to this
abbrev pub IsWeightedLength : WavePicks → List (List ℕ) → List ℤ → ℤ → Type 0
IsWeightedLength wave [] weights total = total ≡ pos 0
IsWeightedLength wave (batch ∷ batches) [] total = total ≡ pos 0
IsWeightedLength wave (batch ∷ batches) (weight ∷ weights) total =
    (long : ℕ) × (rest : ℤ) × IsLengthOf wave batch long × IsWeightedLength wave batches weights rest
    × (total ≡ (weight *ℤ pos long) +ℤ rest)

-- A fractional cover of a wave: permitted batches with whole weights that aren't below 0, over a denominator of at
-- least 1, such that for each order the weights of the batches with it sum to the denominator. It costs the sum of its
-- weights, each times the shortest length of its batch, over the denominator.
pub record IsFractionalCover (wave : WavePicks) (pairing : Pairing) (batches : List (List ℕ)) (weights : List ℤ)
    (denominator : ℤ) : Type 0 where
  pub above : pos 1 ≤ℤ denominator
  pub count : length weights ≡ length batches
  pub not_below : All (λ (weight : ℤ). pos 0 ≤ℤ weight) weights
  pub permitted : All (IsPermitted pairing) batches
  pub exact : (order : ℕ) → order < length wave.orders → weight_with batches weights order ≡ denominator

-- what a batch has in duals: the sum of the duals of its orders, of so many
abbrev pub dual_sum : ℕ → List ℤ → List ℕ → ℤ
dual_sum orders duals batch = total_below orders (λ (order : ℕ). if has batch order then number_at duals order
    else pos 0)

-- the sum of the duals of so many orders
abbrev pub sum_of_duals : ℕ → List ℤ → ℤ
sum_of_duals orders duals = total_below orders (number_at duals)

-- duals, one for each order and none below 0, of which no permitted batch has more than the denominator times its
-- shortest length
pub record AreFeasibleOver (wave : WavePicks) (pairing : Pairing) (duals : List ℤ) (denominator : ℤ) : Type 0 where
  pub are_numbers : AreNumbers (length wave.orders) duals
  pub within : (batch : List ℕ) (long : ℕ) → IsPermitted pairing batch → IsLengthOf wave batch long
      → dual_sum (length wave.orders) duals batch ≤ℤ (denominator *ℤ pos long)

-- no fractional cover costs less than a number over a denominator
abbrev pub IsBelowCovers : WavePicks → Pairing → ℤ → ℤ → Type 0
IsBelowCovers wave pairing low denominator =
    (batches : List (List ℕ)) (weights : List ℤ) (other high : ℤ) → IsFractionalCover wave pairing batches weights other
    → IsWeightedLength wave batches weights high → (low *ℤ other) ≤ℤ (high *ℤ denominator)

-- the linear bound, a number over a denominator: the least cost of a fractional cover
pub record IsLinearBound (wave : WavePicks) (pairing : Pairing) (cost denominator : ℤ) : Type 0 where
  pub batches : List (List ℕ)
  pub weights : List ℤ
  pub cover : IsFractionalCover wave pairing batches weights denominator
  pub long : IsWeightedLength wave batches weights cost
  pub least : IsBelowCovers wave pairing cost denominator
