-- Prices: a dual for each order, one price for each batch, and one for each of some cuts. In sixtieths of a unit of
-- length they say what a batch costs at least.
use Rattle.std.specs.Prelude.{◌≡◌, ℕ, ◌+◌, ◌-◌, ◌*◌, ◌<◌, ◌≤◌, ◌↔◌, List, [], ◌∷◌, All, Contains, length, sum}
use Rattle.wp_pairs.specs.Permitted.{IsPermitted, Pairing}
use Rattle.wp_lengths.specs.Batchings.{IsBatching, IsCost, batch_at}
use Rattle.wp_lengths.specs.Duals.{AreDuals, AreFeasible, AreTight, duals_of, greatest_dual, sixtieths_of, units_of}
use Rattle.wp_lengths.specs.Lengths.{IsLengthOf}
use Rattle.wp_lengths.specs.Waves.{IsWave, WavePicks}
use Rattle.wp_cuts.specs.Counts.{least_batches}
use Rattle.wp_cuts.specs.Cuts.{CutParts, IsRankCut, most_cuts, times_met, times_met_by_all}
use Rattle.wp_cuts.specs.Steps.{IsRoundedUp, IsLayoutStep}

-- a dual for each order, the price that each batch pays, and a price for each cut
pub record NodePrices : Type 0 where
  pub duals : List ℕ
  pub count : ℕ
  pub cuts : List ℕ

-- duals of up to 64 orders and prices of up to 64 cuts, none above the greatest dual
pub record ArePrices (prices : NodePrices) : Type 0 where
  pub duals : AreDuals prices.duals
  pub count : prices.count ≤ greatest_dual
  pub few : length prices.cuts ≤ most_cuts
  pub within : All (λ price. price ≤ greatest_dual) prices.cuts

-- prices are plain where neither batches nor cuts have one
pub record ArePlain (prices : NodePrices) : Type 0 where
  pub count : prices.count ≡ 0
  pub cuts : All (λ price. price ≡ 0) prices.cuts

-- what is taken off a batch: the price of each cut as often as the batch meets it
abbrev pub taken_off : List CutParts → List ℕ → List ℕ → ℕ
taken_off [] prices batch = 0
taken_off (cut ∷ cuts) [] batch = 0
taken_off (cut ∷ cuts) (price ∷ prices) batch = price * times_met cut batch + taken_off cuts prices batch

-- what is taken off all orders: the price of each cut as often as all its orders together would meet it
abbrev pub taken_off_all : List CutParts → List ℕ → ℕ
taken_off_all [] prices = 0
taken_off_all (cut ∷ cuts) [] = 0
taken_off_all (cut ∷ cuts) (price ∷ prices) = price * times_met_by_all cut + taken_off_all cuts prices

-- what a batch has in duals and its own price, before anything is taken off
abbrev pub charged : NodePrices → List ℕ → ℕ
charged prices batch = duals_of prices.duals batch + prices.count

-- What a batch pays is that less what is taken off. It may be below 0, so it is compared by two sides.
abbrev pub PaysAtMost : List CutParts → NodePrices → List ℕ → ℕ → Type 0
PaysAtMost cuts prices batch most = charged prices batch ≤ most + taken_off cuts prices.cuts batch

-- a batch pays just so much
abbrev pub Pays : List CutParts → NodePrices → List ℕ → ℕ → Type 0
Pays cuts prices batch paid = charged prices batch ≡ paid + taken_off cuts prices.cuts batch

-- the net of prices where a wave has at least so many batches: the duals, and the price of each of those batches, less
-- what is taken off all orders; 0 where that would be below 0
abbrev pub net : List CutParts → NodePrices → ℕ → ℕ
net cuts prices batches = sum prices.duals + batches * prices.count - taken_off_all cuts prices.cuts

-- prices are feasible where no permitted batch pays more than sixty times its length
abbrev pub ArePricesFeasible : WavePicks → Pairing → List CutParts → NodePrices → Type 0
ArePricesFeasible wave pairing cuts prices = (batch : List ℕ) (total : ℕ) → IsPermitted pairing batch
    → IsLengthOf wave batch total → PaysAtMost cuts prices batch (sixtieths_of total)

-- a permitted batch with this order that pays exactly sixty times its length
pub record ShowsTight (wave : WavePicks) (pairing : Pairing) (cuts : List CutParts) (prices : NodePrices) (order : ℕ)
    (batch : List ℕ) : Type 0 where
  pub permitted : IsPermitted pairing batch
  pub holds : Contains batch order
  pub total : ℕ
  pub long : IsLengthOf wave batch total
  pub equal : Pays cuts prices batch (sixtieths_of total)

-- prices are tight where each order is in a permitted batch that pays exactly sixty times its length
abbrev pub ArePricesTight : WavePicks → Pairing → List CutParts → NodePrices → Type 0
ArePricesTight wave pairing cuts prices = (order : ℕ) → order < pairing.orders → (batch : List ℕ)
    × ShowsTight wave pairing cuts prices order batch

-- a batching of batches that are permitted where such pairs are decided
pub record IsPermittedBatching (wave : WavePicks) (capacity : ℕ) (pairing : Pairing)
    (batches : List (List ℕ)) : Type 0 where
  pub batching : IsBatching wave capacity batches
  pub permitted : (place : ℕ) → place < length batches → IsPermitted pairing (batch_at batches place)

-- the net of feasible prices is at most sixty times what a batching of permitted batches costs
abbrev pub NetsAreNoMore : Type 0
NetsAreNoMore = (wave : WavePicks) (capacity : ℕ) (pairing : Pairing) (cuts : List CutParts) (prices : NodePrices)
    (batches : List (List ℕ)) (cost : ℕ) → IsWave wave → 1 ≤ capacity → All (IsRankCut (length wave.orders)) cuts
    → length prices.duals ≡ length wave.orders → ArePricesFeasible wave pairing cuts prices
    → IsPermittedBatching wave capacity pairing batches → IsCost wave batches cost
    → net cuts prices (least_batches wave capacity) ≤ sixtieths_of cost

-- nor is the net in units, rounded up to a multiple of the layout's step, more than such a batching costs
abbrev pub RoundedNetsAreNoMore : Type 0
RoundedNetsAreNoMore = (wave : WavePicks) (capacity : ℕ) (pairing : Pairing) (cuts : List CutParts)
    (prices : NodePrices) (batches : List (List ℕ)) (cost step bound : ℕ) → IsWave wave → 1 ≤ capacity
    → All (IsRankCut (length wave.orders)) cuts → length prices.duals ≡ length wave.orders
    → ArePricesFeasible wave pairing cuts prices → IsPermittedBatching wave capacity pairing batches
    → IsCost wave batches cost → IsLayoutStep wave.layout step
    → IsRoundedUp step (net cuts prices (least_batches wave capacity)) bound → bound ≤ cost

-- Plain prices say what their duals say: they are feasible and tight where the duals are, their net is what the duals
-- come to, and rounded up to a multiple of 1 that is the bound of duals.
pub record SayWhatDualsSay (wave : WavePicks) (pairing : Pairing) (cuts : List CutParts) (prices : NodePrices)
    : Type 0 where
  pub feasible : ArePricesFeasible wave pairing cuts prices ↔ AreFeasible wave pairing prices.duals
  pub tight : ArePricesTight wave pairing cuts prices ↔ AreTight wave pairing prices.duals
  pub nets : (batches : ℕ) → net cuts prices batches ≡ sum prices.duals
  pub bounds : (bound : ℕ) → IsRoundedUp 1 (sum prices.duals) bound ↔ (bound ≡ units_of (sum prices.duals))

-- all plain prices do
abbrev pub PlainPricesSayWhatDualsSay : Type 0
PlainPricesSayWhatDualsSay = (wave : WavePicks) (pairing : Pairing) (cuts : List CutParts) (prices : NodePrices)
    → ArePlain prices → SayWhatDualsSay wave pairing cuts prices
