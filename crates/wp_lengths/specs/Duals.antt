-- Duals: one number for each order of a wave. In sixtieths of a unit of length they say what the orders of a batch cost
-- at least.
use Rattle.std.specs.Prelude.{◌≡◌, ℕ, ◌+◌, ◌*◌, ◌/◌, ◌<◌, ◌≤◌, List, [], ◌∷◌, All, Contains, length, slice_index, sum}
use Rattle.std.specs.Prelude.{sum_by}
use Rattle.wp_pairs.specs.Permitted.{IsPermitted, Pairing}
use Rattle.wp_lengths.specs.Lengths.{IsLengthOf}
use Rattle.wp_lengths.specs.Waves.{WavePicks}

-- what the orders of a batch have in duals, all together
abbrev pub duals_of : List ℕ → List ℕ → ℕ
duals_of duals batch = sum_by (slice_index duals) batch

-- the greatest dual
abbrev pub greatest_dual : ℕ
greatest_dual = 1000000000000

-- a length in sixtieths of a unit
abbrev pub sixtieths_of : ℕ → ℕ
sixtieths_of total = 60 * total

-- duals of up to 64 orders, none above the greatest
pub record AreDuals (duals : List ℕ) : Type 0 where
  pub few : length duals ≤ 64
  pub within : All (λ dual. dual ≤ greatest_dual) duals

-- duals are feasible where no permitted batch has more in duals than sixty times its length
abbrev pub AreFeasible : WavePicks → Pairing → List ℕ → Type 0
AreFeasible wave pairing duals = (batch : List ℕ) (total : ℕ) → IsPermitted pairing batch → IsLengthOf wave batch total
    → duals_of duals batch ≤ sixtieths_of total

-- a permitted batch with this order that has in duals exactly sixty times its length
pub record IsTightFor (wave : WavePicks) (pairing : Pairing) (duals : List ℕ) (order : ℕ)
    (batch : List ℕ) : Type 0 where
  pub permitted : IsPermitted pairing batch
  pub holds : Contains batch order
  pub total : ℕ
  pub long : IsLengthOf wave batch total
  pub equal : duals_of duals batch ≡ sixtieths_of total

-- duals are tight where each order is in a permitted batch that has in duals exactly sixty times its length
abbrev pub AreTight : WavePicks → Pairing → List ℕ → Type 0
AreTight wave pairing duals = (order : ℕ) → order < pairing.orders → (batch : List ℕ)
    × IsTightFor wave pairing duals order batch

-- the share dual of an order: sixty times the length of a tour for it alone, divided by the capacity and rounded down
pub record IsShare (wave : WavePicks) (capacity order share : ℕ) : Type 0 where
  pub total : ℕ
  pub alone : IsLengthOf wave (order ∷ []) total
  pub is : share ≡ sixtieths_of total / capacity

-- the share duals, one for each order
pub record AreShares (wave : WavePicks) (capacity : ℕ) (shares : List ℕ) : Type 0 where
  pub count : length shares ≡ length wave.orders
  pub each : (order : ℕ) → order < length wave.orders → IsShare wave capacity order (slice_index shares order)

-- the share duals come to this
abbrev pub IsSumOfShares : WavePicks → ℕ → ℕ → Type 0
IsSumOfShares wave capacity total = (shares : List ℕ) × AreShares wave capacity shares × (sum shares ≡ total)

-- sixtieths, in whole units of length, rounded up
abbrev pub units_of : ℕ → ℕ
units_of sixtieths = (sixtieths + 59) / 60
